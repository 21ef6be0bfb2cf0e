use Rattle.std.proofs.Common.{sym, ap, ok_or}
use Rattle.faults.specs.declared.listing.ListingFault.TheVariants.{InputCount}
use Rattle.listing.proofs.Arities.{arity_given}
use Rattle.listing.proofs.opening.ArityTryFromU32.try_from.Goals as goal

pub returns : goal.returns
returns c = ap (λ o. ok_or o InputCount) (sym (arity_given c.args.inputs _))

use Rattle.std.proofs.Common.{not, sym, ap, ◌∙◌}
use Rattle.std.proofs.Math.Bool.{not-not}
use Rattle.listing.proofs.Asked.{good_touched, good_told}
use Rattle.listing.proofs.widening.is_good.Goals as goal

pub returns-then-is_some-clause-good : goal.returns-then-is_some-clause-good
returns-then-is_some-clause-good g c = sym (good_touched _ _ _ _ _ c.touches.result c.touches.ensures c.if-is_some.ensures)

pub returns-clause-good : goal.returns-clause-good
returns-clause-good g c =
    sym (ap not c.is_none.ensures ∙ not-not c.is_none.result) ∙ good_told _ _ _ _ _ c.touches.result _ c.touches.ensures c.if-is_some.ensures (rw c.requires at c.ask-spoilt.ensures.answer)

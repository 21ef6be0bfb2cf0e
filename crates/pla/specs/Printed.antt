-- What printing a finished listing gives, and the text memory after it.
--   register   entries that the call is lent: the waivers of the listing first, then its list
--   memory     bytes that the call is lent for the text
-- Assumes nothing.
use Rattle.std.specs.Prelude.{ℕ, cond, List, length, Err, Result, nat_lt}
use Rattle.std.specs.Result.{result_map_both}
use Rattle.faults.specs.declared.job.Fault.{Fault}
use Rattle.faults.specs.declared.job.Fault.TheVariants.{Listing, Table}
use Rattle.faults.specs.declared.listing.ListingFault.TheVariants.{RegisterShort}
use Rattle.faults.specs.declared.table.TableFault.{TableFault}
use Rattle.cubes.specs.declared.entry.Entry.{Entry}
use Rattle.listing.specs.declared.states.Finished.{Finished}
use Rattle.listing.specs.Calls.{entries, cubes_in}
use Rattle.pla.specs.Text.{written}

-- a fault of the table layer as any fault
abbrev pub carried : Result ℕ TableFault → Result ℕ Fault
carried r = result_map_both (λ length. length) Table r

-- a register shorter than the entries held is refused first, then a memory too short for the text
abbrev pub printed : Finished → List Entry → List ℕ → Result ℕ Fault × List ℕ
printed finished register memory =
    let listing = finished.listing in
    let wrote = written listing.draft.arity.inputs (cubes_in listing register) memory in
    cond (nat_lt (length register) (entries listing)) (Err (Listing (RegisterShort (entries listing))), memory) (carried wrote.0, wrote.1)

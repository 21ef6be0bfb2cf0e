-- What each call gives, and the register after it: a defined value for every argument. Assumes nothing.
--
-- mode: 1 for separate cubes, of which no two hold one row, 2 for cubes that may share rows
-- register: the entries that a call is lent, the waivers first, the listed cubes after, then free ones of any content
-- entries: how many the listing counts
-- solutions: the rows that a decider means
-- unwaived: the solutions that no waiver holds
-- covered: the rows that a listed cube holds
-- allowed: the rows that a new cube may hold
-- lead: the smallest unwaived solution that is not covered
-- total: the rows of each listed cube, added up
use Rattle.std.specs.Prelude.{ℕ, ◌+◌, ◌-◌, ◌%◌, ◌^◌, Bool, cond, not, ◌&&◌, List, [], ◌∷◌, length, take, drop, Some, None, Ok, Err, Option, Result, ◌==◌, bit_and, count_ones, nat_lt, slice_set}
use Rattle.std.proofs.Math.Decide.{dec_le}
use Rattle.faults.specs.declared.listing.ListingFault.{ListingFault}
use Rattle.faults.specs.declared.listing.ListingFault.TheVariants.{Mode as ModeFault, InputCount, Waiver, RegisterFull, RegisterShort, DeciderInputs}
use Rattle.cubes.specs.declared.cube.Cube.{Cube}
use Rattle.cubes.specs.declared.entry.Entry.{Entry}
use Rattle.cubes.specs.Cubes.{care_of, held, waiver_entry, listed_entry}
use Rattle.listing.specs.declared.arity.Arity.{Arity}
use Rattle.listing.specs.declared.mode.Mode.{Mode}
use Rattle.listing.specs.declared.mode.Mode.TheVariants.{Separate, Shared}
use Rattle.listing.specs.declared.states.Draft.{Draft}
use Rattle.listing.specs.declared.states.Running.{Running}
use Rattle.listing.specs.declared.states.Finished.{Finished}
use Rattle.listing.specs.declared.states.Step.{Step}
use Rattle.listing.specs.declared.states.Step.TheVariants.{Listed, Ended}
use Rattle.listing.specs.declared.states.Refusal.{Refusal}
pub use Rattle.listing.specs.Limits.{max_inputs, max_entries}
use Rattle.listing.specs.Widest.{without, lead, widest}

-- ---- open

abbrev pub mode_of : ℕ → Option Mode
mode_of number = cond (number == 1) (Some Separate) (cond (number == 2) (Some Shared) None)

abbrev pub arity_of : ℕ → Option Arity
arity_of n =
    elim (dec_le 1 n) [
      | yes low ↦ elim (dec_le n max_inputs) [ yes high ↦ Some (record { inputs = n; limits = (low, high) }) | no _ ↦ None ]
      | no _ ↦ None
    ]

abbrev pub drafted : Option Mode → Option Arity → Result Draft ListingFault
drafted None arity = Err ModeFault
drafted (Some mode) None = Err InputCount
drafted (Some mode) (Some arity) = Ok (record { arity = arity; mode = mode; waivers = 0 })

abbrev pub opened : ℕ → ℕ → Result Draft ListingFault
opened mode n = drafted (mode_of mode) (arity_of n)

-- ---- waive

-- an entry is free, and fewer than the most are used
abbrev pub room : ℕ → List Entry → Bool
room used register = nat_lt used (length register) && nat_lt used max_entries

-- the value lies inside the care, and the care inside the inputs
abbrev pub well_formed : ℕ → Cube → Bool
well_formed n cube = bit_and cube.value cube.care == cube.value && nat_lt cube.care (2 ^ n)

-- a cube's entry as a waiver, and as a listed cube
abbrev pub waiver_of : Cube → Entry
waiver_of cube = waiver_entry cube.care cube.value

abbrev pub listed_of : Cube → Entry
listed_of cube = listed_entry cube.care cube.value

abbrev pub one_waiver : Draft → Draft
one_waiver d = record { arity = d.arity; mode = d.mode; waivers = d.waivers + 1 }

abbrev pub waived : Draft → List Entry → Cube → (Result (Unit {0}) ListingFault × Draft × List Entry)
waived d register cube =
    cond (nat_lt (length register) d.waivers) (Err (RegisterShort d.waivers), d, register)
    (cond (not (well_formed d.arity.inputs cube)) (Err (Waiver d.waivers), d, register)
    (cond (not (room d.waivers register)) (Err (RegisterFull d.waivers), d, register)
    (Ok tt, one_waiver d, slice_set register d.waivers (waiver_of cube))))

-- ---- begin and reopen

abbrev pub begun : Draft → Running
begun d = record { draft = d; cubes = 0 }

abbrev pub reopened : Running → Draft
reopened l = l.draft

-- ---- next

abbrev pub entries : Running → ℕ
entries l = l.draft.waivers + l.cubes

abbrev pub waivers_in : Running → List Entry → List Entry
waivers_in l register = take l.draft.waivers register

abbrev pub cubes_in : Running → List Entry → List Entry
cubes_in l register = take l.cubes (drop l.draft.waivers register)

abbrev pub allowed : Mode → (ℕ → Bool) → (ℕ → Bool) → ℕ → Bool
allowed Separate unwaived covered = without unwaived covered
allowed Shared unwaived covered = unwaived

abbrev pub one_more : Running → Running
one_more l = record { draft = l.draft; cubes = l.cubes + 1 }

abbrev pub refuse : Running → List Entry → ListingFault → (Result Step Refusal × List Entry)
refuse l register fault = (Err (record { listing = l; fault = fault }), register)

-- the entry of the cube around a row
abbrev pub entry_around : ℕ → ℕ → Entry
entry_around row care = listed_entry care (bit_and row care)

-- with a lead, and without one
abbrev pub led : Running → List Entry → (ℕ → Bool) → (ℕ → Bool) → Option ℕ → (Result Step Refusal × List Entry)
led l register unwaived covered None = (Ok (Ended (record { listing = l })), register)
led l register unwaived covered (Some row) =
    cond (not (room (entries l) register)) (refuse l register (RegisterFull (entries l)))
    (Ok (Listed (one_more l)), slice_set register (entries l) (entry_around row (widest l.draft.arity.inputs (allowed l.draft.mode unwaived covered) row)))

abbrev pub advanced : Running → List Entry → (ℕ → Bool) → (ℕ → Bool) → (Result Step Refusal × List Entry)
advanced l register unwaived covered = led l register unwaived covered (lead l.draft.arity.inputs (without unwaived covered))

-- with a decider that means so many inputs and these solutions
abbrev pub nexted : Running → ℕ → (ℕ → Bool) → List Entry → (Result Step Refusal × List Entry)
nexted l inputs solutions register =
    cond (nat_lt (length register) (entries l)) (refuse l register (RegisterShort (entries l)))
    (cond (not (inputs == l.draft.arity.inputs)) (refuse l register (DeciderInputs (entries l)))
    (advanced l register (without solutions (held (waivers_in l register))) (held (cubes_in l register))))

-- ---- total

-- the inputs among the n that a care leaves open
abbrev pub open_inputs : ℕ → ℕ → ℕ
open_inputs n care = n - count_ones (care % 2 ^ n)

abbrev pub sizes : ℕ → List Entry → ℕ
sizes n [] = 0
sizes n (e ∷ es) = 2 ^ open_inputs n (care_of e) + sizes n es

abbrev pub totalled : Finished → List Entry → Result ℕ ListingFault
totalled f register =
    cond (nat_lt (length register) (entries f.listing)) (Err (RegisterShort (entries f.listing)))
    (Ok (sizes f.listing.draft.arity.inputs (cubes_in f.listing register)))

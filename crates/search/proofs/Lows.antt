-- Of a care only the bits of the inputs count: a cube cut to them has the same rows.
use Rattle.std.proofs.Common.{◌≡◌, ℕ, ◌-◌, ◌^◌, ◌<◌, ◌≤◌, Bool, true, false, cond, ◌&&◌, eqb, List, Option, sym, ap, ◌∙◌, eqb-true}
use lib.Bits.{bit_and, and_self, and_mask}
use borrow.Author.Tests.{clash}
use Rattle.circuit.specs.Limits.{max_inputs}
use Rattle.cubes.specs.declared.entry.Entry.{Entry}
use Rattle.cubes.specs.Cubes.{care_of}
use Rattle.cubes.specs.Deciders.{Answer}
use Rattle.cubes.proofs.Bits.{and_assoc, and_low, below_limit}
use Rattle.search.specs.Branches.{Each, SameRows}

pub cut_rows : (n care value : ℕ) → SameRows n (bit_and care (2 ^ n - 1)) value care value
cut_rows n care value row lt = ap (λ x. eqb x value) (and_low row care n lt)

-- a value outside the care is no row's
pub cut_none : (n care value : ℕ) → (bit_and value (bit_and care (2 ^ n - 1)) ≡ value → ⊥) → Each n care value (λ _. ⊥)
cut_none n care value outside row lt w =
    let m = bit_and care (2 ^ n - 1) in
    let e : bit_and row m ≡ value = and_low row care n lt ∙ eqb-true _ _ w in
    outside (ap (λ x. bit_and x m) (sym e) ∙ and_assoc row m m ∙ ap (bit_and row) (and_self m) ∙ e)

-- what an entry's care has at the inputs
pub cut_entry : (n : ℕ) (e : Entry) (row : ℕ) → n ≤ max_inputs → row < 2 ^ n → bit_and row (bit_and e.care (2 ^ n - 1)) ≡ bit_and row (care_of e)
cut_entry n e row le lt =
    and_low row e.care n lt ∙ sym (and_low row e.care 30 (below_limit row n le lt)) ∙ ap (bit_and row) (and_mask e.care 30)

-- a decider that has room answers as its circuit
pub roomy_answer : (room : Bool) (n : ℕ) (set : ℕ → Bool) (care value : ℕ) (wanted : Bool) (barred : List Entry) (r : Option ℕ) → room ≡ true
    → Answer n set care value wanted barred r → Answer (cond room n 0) (λ row. room && set row) care value wanted barred r
roomy_answer true n set care value wanted barred r e a = a
roomy_answer false n set care value wanted barred r e a = absurd (clash e)

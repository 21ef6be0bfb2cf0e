-- What the entries that touch a branch say of its rows.
use Rattle.std.proofs.Common.{◌≡◌, ℕ, ◌+◌, ◌-◌, ◌^◌, ◌<◌, ◌≤◌, true, false, List, length, get_or, sym, ap, ◌∙◌, arith, eq-eqb, eqb-true, below_more}
use lib.Bits.{bit_and, and_self, and_comm}
use borrow.Author.Tests.{clash}
use Rattle.std.proofs.lemmas.Bool.{false_from_ne_true}
use Rattle.circuit.specs.Limits.{max_inputs}
use Rattle.cubes.specs.declared.entry.Entry.{Entry}
use Rattle.cubes.specs.Cubes.{within, care_of, value_of, blank, Touch}
use Rattle.cubes.proofs.Bits.{and_assoc}
use Rattle.cubes.proofs.Entries.{held_none}
use Rattle.search.specs.declared.barring.Barring.{Barring}
use Rattle.search.specs.declared.barring.Barring.TheVariants.{Free, Part, Whole}
use Rattle.search.specs.Branches.{Single, Each, Barred, fixes_all}
use Rattle.search.proofs.Lows.{cut_entry}
use Rattle.search.proofs.Opens.{all_ones}

module _ (n care value : ℕ) (e : Entry) where
  -- an entry that touches the branch and fixes none of its open inputs holds all of it
  pub fixed_holds : n ≤ max_inputs → true ≡ fixes_all n care e.care → Touch n care value e → Each n care value (λ row. within (care_of e) (value_of e) row ≡ true)
  fixed_holds le fixed (shared, s) row lt w =
      let m = bit_and e.care (2 ^ n - 1) in
      let at : (x : ℕ) → x < 2 ^ n → within care value x ≡ true → bit_and x (care_of e) ≡ bit_and value m =
      λ x l h. sym (cut_entry n e x le l) ∙ ap (bit_and x) (sym (eqb-true _ _ (sym fixed)) ∙ and_comm m care) ∙ sym (and_assoc x care m) ∙ ap (λ y. bit_and y m) (eqb-true _ _ h) in
      eq-eqb _ _ (at row lt w ∙ sym (at shared s.below s.inside) ∙ eqb-true _ _ s.held)

  -- a single row has no open input that an entry could fix
  pub single_fixed : care < 2 ^ n → false ≡ fixes_all n care e.care → Single n care → ⊥
  single_fixed below open-left single =
      let m = bit_and e.care (2 ^ n - 1) in
      let whole : bit_and m care ≡ m = ap (bit_and m) (all_ones n care below single) ∙ and_assoc e.care (2 ^ n - 1) (2 ^ n - 1) ∙ ap (bit_and e.care) (and_self (2 ^ n - 1)) in
      clash (open-left ∙ eq-eqb _ _ whole)

-- ---- from one entry to the next

-- no entry before this place touches the branch, or it has more than one row
abbrev pub SoFar : ℕ → ℕ → ℕ → List Entry → ℕ → Barring → Type 0
SoFar n care value es place Free = (i : ℕ) → i < place → Touch n care value (get_or es i blank) → ⊥
SoFar n care value es place (Part e) = Single n care → ⊥
SoFar n care value es place Whole = ⊥

module _ (n care value : ℕ) (es : List Entry) where
  -- one more entry that does not touch it
  pub one_apart : (place : ℕ) (b : Barring) → SoFar n care value es place b → (Touch n care value (get_or es place blank) → ⊥) → SoFar n care value es (place + 1) b
  one_apart place Free none apart = below_more _ _ none apart
  one_apart place (Part e) several apart = several
  one_apart place Whole never apart = never

  pub untouched : (place : ℕ) (b : Barring) → length es ≤ place → SoFar n care value es place b → Barred n care value es b
  untouched place Free all none = λ row lt w. held_none es row (λ i l. false_from_ne_true _ (λ h. none i (omega arith) (row, record { below = lt; inside = w; held = h })))
  untouched place (Part e) all several = several
  untouched place Whole all never = absurd never

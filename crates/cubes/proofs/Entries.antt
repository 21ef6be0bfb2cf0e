-- A list of entries, one by one, and the row that a cube and an entry share if they share any.
use Rattle.std.proofs.Common.{◌≡◌, ℕ, suc, ◌<◌, Bool, true, false, ◌&&◌, List, [], ◌∷◌, length, get_or, sym, refl, ◌∙◌, arith, lt-ltb, eq-eqb, eqb-true}
use lib.Bits.{bit_or}
use borrow.Author.Tests.{clash}
use Rattle.std.proofs.lemmas.List.Folds.{list_any_at}
use Rattle.std.proofs.lemmas.Bool.{and_from, or_from}
use Rattle.cubes.specs.declared.entry.Entry.{Entry}
use Rattle.cubes.specs.Cubes.{within, holds, held, care_of, value_of, blank, Touch}
use Rattle.cubes.proofs.Bits.{join_left, join_right, join_le}

-- the entry at place i holds the row
abbrev pub holds_at : List Entry → ℕ → ℕ → Bool
holds_at es i row = within (care_of (get_or es i blank)) (value_of (get_or es i blank)) row

pub held_at : (es : List Entry) (i row : ℕ) → i < length es → holds_at es i row ≡ true → held es row ≡ true
held_at es i row lt h = list_any_at _ es i blank lt h

pub held_none : (es : List Entry) (row : ℕ) → ((i : ℕ) → i < length es → holds_at es i row ≡ false) → held es row ≡ false
held_none [] row f = refl
held_none (e ∷ es) row f = or_from _ _ (f 0 (omega arith)) (held_none es row (λ i lt. f (suc i) (omega arith)))

module _ (n care value : ℕ) (e : Entry) where
  -- both hold the OR of their values
  abbrev sharing : Bool
  sharing = holds n care value (bit_or value (value_of e)) && within (care_of e) (value_of e) (bit_or value (value_of e))

  -- if the cube and the entry share a row, they share that one
  pub apart : sharing ≡ false → Touch n care value e → ⊥
  apart shut (row, s) =
      let p = eqb-true _ _ s.inside in
      let q = eqb-true _ _ s.held in
      let le = join_le row care (care_of e) value (value_of e) p q in
      let b = s.below in
      let inside = eq-eqb _ _ (join_left row care (care_of e) value (value_of e) p q) in
      let held = eq-eqb _ _ (join_right row care (care_of e) value (value_of e) p q) in
      clash (sym shut ∙ and_from _ _ (and_from _ _ (lt-ltb _ _ (omega arith)) inside) held)

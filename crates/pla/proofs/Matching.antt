-- A cube holds a row exactly when the row matches the cube's line.
use Rattle.std.proofs.Common.{◌≡◌, ℕ, zero, suc, ◌+◌, ◌-◌, ◌/◌, ◌%◌, ◌^◌, ◌<◌, ◌≤◌, true, cond, eqb, ltb, ◌↔◌, get_or, sym, refl, ap, ◌∙◌, subst, inl, inr, ⊎_elim, arith}
use lib.Bits.{bit_and, and_zero_r, and_le_r}
use Rattle.std.proofs.lemmas.Bool.{and_parts, and_from, eqb-true, eq-eqb, lt-ltb}
use Rattle.std.proofs.lemmas.Nat.Bits.{same_from_bits_below}
use Rattle.cubes.specs.declared.entry.Entry.{Entry}
use Rattle.cubes.specs.Cubes.{care_of, value_of, holds}
use Rattle.cubes.proofs.Bits.{and_digit}
use Rattle.pla.specs.declared.position.Position.TheVariants.{Zero, One, Open}
use Rattle.pla.specs.Telling.{CubeOf, Fits, Matches}
use Rattle.pla.specs.Text.{character_of, position_at, line_of}
use Rattle.pla.proofs.Positions.{line_at, inside_bit}

-- the bits of care, value and row at one input
fits_bit : (x y z : ℕ) → x < 2 → y ≤ x → z < 2 → (bit_and z x ≡ y) ↔ Fits (character_of (cond (eqb x 0) Open (cond (eqb y 0) Zero One))) z
fits_bit zero zero z p q r = (λ _. inl refl, λ _. and_zero_r z)
fits_bit zero (suc y) z p q r = absurd (omega arith)
fits_bit (suc zero) zero zero p q r = (λ _. inr refl, λ _. refl)
fits_bit (suc zero) zero (suc zero) p q r = (λ e. absurd (omega arith), λ f. absurd (⊎_elim (λ e. omega arith) (λ e. omega arith) f))
fits_bit (suc zero) (suc zero) zero p q r = (λ e. absurd (omega arith), λ f. absurd (⊎_elim (λ e. omega arith) (λ e. omega arith) f))
fits_bit (suc zero) (suc zero) (suc zero) p q r = (λ _. inr refl, λ _. refl)
fits_bit (suc zero) zero (suc (suc z)) p q r = absurd (omega arith)
fits_bit (suc zero) (suc zero) (suc (suc z)) p q r = absurd (omega arith)
fits_bit (suc zero) (suc (suc y)) z p q r = absurd (omega arith)
fits_bit (suc (suc x)) y z p q r = absurd (omega arith)

module _ (n : ℕ) (cube : Entry) (row : ℕ) (p : CubeOf n cube) where
  at_bit : (b : ℕ) → (bit_and row (care_of cube) / 2 ^ b % 2 ≡ value_of cube / 2 ^ b % 2) ↔ Fits (character_of (position_at (care_of cube) (value_of cube) b)) (row / 2 ^ b % 2)
  at_bit b =
      let bits = fits_bit (care_of cube / 2 ^ b % 2) (value_of cube / 2 ^ b % 2) (row / 2 ^ b % 2) (omega arith) (inside_bit (care_of cube) (value_of cube) b p.inside) (omega arith) in
      (λ e. bits.0 (sym (and_digit row (care_of cube) b) ∙ e), λ f. and_digit row (care_of cube) b ∙ bits.1 f)

  pub row_matches : holds n (care_of cube) (value_of cube) row ≡ true → Matches n (line_of n cube) row
  row_matches h i low high =
      let whole : bit_and row (care_of cube) ≡ value_of cube = eqb-true _ _ (and_parts (ltb row (2 ^ n)) _ h).1 in
      let fit = (at_bit (n - i)).0 (ap (λ x. x / 2 ^ (n - i) % 2) whole) in
      let P : ℕ → Type 0 = λ character. Fits character (row / 2 ^ (n - i) % 2) in
      subst P (sym (line_at n (care_of cube) (value_of cube) (i - 1) (n - i) (omega arith))) fit

  pub match_holds : row < 2 ^ n → Matches n (line_of n cube) row → holds n (care_of cube) (value_of cube) row ≡ true
  match_holds below m =
      let care = p.below in
      let bit : (b : ℕ) → b < n → bit_and row (care_of cube) / 2 ^ b % 2 ≡ value_of cube / 2 ^ b % 2 = λ b h.
      let place : (n - b) - 1 + suc b ≡ n = omega arith in
      let same : n - (n - b) ≡ b = omega arith in
      let P : ℕ → Type 0 = λ character. Fits character (row / 2 ^ b % 2) in
      let Q : ℕ → Type 0 = λ k. Fits (get_or (line_of n cube) (n - b - 1) 0) (row / 2 ^ k % 2) in
      (at_bit b).1 (subst P (line_at n (care_of cube) (value_of cube) (n - b - 1) b place) (subst Q same (m (n - b) (omega arith) (omega arith)))) in
      let low = and_le_r row (care_of cube) in
      let inner = and_le_r (value_of cube) (care_of cube) in
      let whole : bit_and row (care_of cube) ≡ value_of cube = same_from_bits_below n _ _ (omega arith) (omega (arith, p.inside)) bit in
      and_from (ltb row (2 ^ n)) _ (lt-ltb row (2 ^ n) below) (eq-eqb _ _ whole)

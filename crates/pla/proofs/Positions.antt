-- The line of a cube tells its care and its value.
use Rattle.std.proofs.Common.{◌≡◌, ℕ, zero, suc, ◌+◌, ◌-◌, ◌<◌, ◌≤◌, cond, eqb, get_or, sym, refl, ap, ◌∙◌, arith}
use Rattle.std.proofs.lemmas.Nat.Bits.{bit_at_and, bit_at-lt, same_from_bits_below}
use Rattle.std.specs.Int.{bit_at}
use lib.Bits.{bit_and, and_le_r}
use Rattle.cubes.specs.declared.entry.Entry.{Entry}
use Rattle.cubes.specs.Cubes.{care_of, value_of}
use Rattle.pla.specs.declared.position.Position.TheVariants.{Zero, One, Open}
use Rattle.pla.specs.Telling.{CubeOf}
use Rattle.pla.specs.Text.{character_of, position_at, cube_line, line_of}

-- the character of bit b stands j places behind the first
pub line_at : (n c v j b : ℕ) → j + suc b ≡ n → get_or (cube_line n c v) j 0 ≡ character_of (position_at c v b)
line_at zero c v j b e = absurd (omega arith)
line_at (suc n) c v zero b e = let same : n ≡ b = omega arith in ap (λ k. character_of (position_at c v k)) same
line_at (suc n) c v (suc j) b e = line_at n c v j b (omega arith)

-- the bits of care and of value that a character tells
abbrev told_care : ℕ → ℕ
told_care character = cond (eqb character 45) 0 1

abbrev told_value : ℕ → ℕ
told_value character = cond (eqb character 49) 1 0

abbrev Told : ℕ → ℕ → ℕ → Type 0
Told character x y = (told_care character ≡ x) × (told_value character ≡ y)

told : (x y : ℕ) → x < 2 → y ≤ x → Told (character_of (cond (eqb x 0) Open (cond (eqb y 0) Zero One))) x y
told zero zero h k = (refl, refl)
told zero (suc y) h k = absurd (omega arith)
told (suc zero) zero h k = (refl, refl)
told (suc zero) (suc zero) h k = (refl, refl)
told (suc zero) (suc (suc y)) h k = absurd (omega arith)
told (suc (suc x)) y h k = absurd (omega arith)

pub inside_bit : (c v b : ℕ) → bit_and v c ≡ v → bit_at v b ≤ bit_at c b
inside_bit c v b e = omega (arith, ap (λ x. bit_at x b) e, bit_at_and v c b)

told_at : (n : ℕ) (x : Entry) → CubeOf n x → (b : ℕ) → Told (character_of (position_at (care_of x) (value_of x) b)) (bit_at (care_of x) b) (bit_at (value_of x) b)
told_at n x p b = told _ _ (bit_at-lt (care_of x) b) (inside_bit (care_of x) (value_of x) b p.inside)

module _ (n : ℕ) (x y : Entry) (p : CubeOf n x) (q : CubeOf n y) (e : line_of n x ≡ line_of n y) where
  characters : (b : ℕ) → b < n → character_of (position_at (care_of x) (value_of x) b) ≡ character_of (position_at (care_of y) (value_of y) b)
  characters b h =
      let place : (n - suc b) + suc b ≡ n = omega arith in
      sym (line_at n (care_of x) (value_of x) (n - suc b) b place) ∙ ap (λ l. get_or l (n - suc b) 0) e ∙ line_at n (care_of y) (value_of y) (n - suc b) b place

  pub line_care : care_of x ≡ care_of y
  line_care =
      same_from_bits_below n (care_of x) (care_of y) p.below q.below
      (λ b h. sym (told_at n x p b).0 ∙ ap told_care (characters b h) ∙ (told_at n y q b).0)

  pub line_value : value_of x ≡ value_of y
  line_value =
      let low = and_le_r (value_of x) (care_of x) in
      let high = and_le_r (value_of y) (care_of y) in
      same_from_bits_below n (value_of x) (value_of y) (omega (arith, p.inside, p.below)) (omega (arith, q.inside, q.below))
      (λ b h. sym (told_at n x p b).1 ∙ ap told_value (characters b h) ∙ (told_at n y q b).1)

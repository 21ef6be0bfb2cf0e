-- Cares, bit by bit: the one with an input opened lies inside the others.
use Rattle.std.proofs.Common.{◌≡◌, ℕ, suc, ◌+◌, ◌-◌, ◌*◌, ◌/◌, ◌%◌, ◌^◌, ◌<◌, sym, ap, ◌∙◌, ap₂, mod-lt, mod-eq_of_lt, arith, pow_pos, shr-shr}
use lib.Pow.{ones_lt, split}
use lib.Bits.{bit_and, and_step, and_block, and_self, and_mask, and_comm}
use Rattle.cubes.proofs.Bits.{and_assoc}
use Rattle.listing.specs.Widest.{rest}

-- the inputs that c fixes are among those of d
abbrev pub Inside : ℕ → ℕ → Type 0
Inside c d = bit_and d c ≡ c

-- rows that agree at the inputs of d agree at those of a c inside it
pub agree : (r s c d : ℕ) → Inside c d → bit_and r d ≡ bit_and s d → bit_and r c ≡ bit_and s c
agree r s c d w e = cc (and_assoc r d c, and_assoc s d c)

-- ---- a care that is fixed at the input of bit b

double_and : (h : ℕ) → bit_and (2 * h + 1) (2 * h) ≡ 2 * h
double_and h = grind (arith, and_step (2 * h + 1) (2 * h), and_self h)

pub halves : (care b : ℕ) → care / 2 ^ b ≡ 2 * (care / 2 ^ suc b) + (care / 2 ^ b) % 2
halves care b = grind (arith, shr-shr care b 1)

module _ (care b : ℕ) (fixed : (care / 2 ^ b) % 2 ≡ 1) where
  care_is : care ≡ (2 * (care / 2 ^ suc b) + 1) * 2 ^ b + care % 2 ^ b
  care_is = let h : 2 * (care / 2 ^ suc b) + 1 ≡ care / 2 ^ b = omega (arith, halves care b) in rw h (sym (split care b))

  less_is : care - 2 ^ b ≡ (2 * (care / 2 ^ suc b)) * 2 ^ b + care % 2 ^ b
  less_is = omega (arith, care_is)

  low : care % 2 ^ b < 2 ^ b
  low = mod-lt care (pow_pos b)

  pub opened_inside : Inside (care - 2 ^ b) care
  opened_inside =
      ap₂ bit_and care_is less_is ∙ and_block b _ _ _ _ low low ∙ simp (double_and, and_self) (sym less_is)

  pub opened_inside_rest : Inside (care - 2 ^ b) (rest b (2 * (care / 2 ^ suc b)))
  opened_inside_rest =
      ap (bit_and (rest b (2 * (care / 2 ^ suc b)))) less_is ∙ and_block b _ _ _ _ (ones_lt b) low
      ∙ ap₂ (λ (x y : ℕ). x * 2 ^ b + y) (and_self _) (and_comm _ _ ∙ and_mask _ b ∙ mod-eq_of_lt low)
      ∙ sym less_is

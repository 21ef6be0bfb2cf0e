-- The lanes of a word that lie in a cube, place by place and then as a whole.
use Rattle.std.proofs.Common.{◌≡◌, ℕ, zero, suc, ◌+◌, ◌*◌, ◌/◌, ◌%◌, ◌^◌, ◌<◌, true, false, ◌&&◌, eqb, add_comm, sym, ap, ◌∙◌, mod-lt, mod-eq_of_lt, arith, pow_pos}
use lib.Bits.{bit_and, and_shr, and_mod}
use mathlib.Core.Bool.{and-true}
use lib.Pow.{mod-pow-add}
use Rattle.std.proofs.lemmas.Bool.Decides.{nat_tests}
use Rattle.std.proofs.lemmas.Bool.{and_right}
use Rattle.circuit.specs.Kinds.{bit_at, same}
use Rattle.circuit.specs.Words.{and_bit}
use Rattle.cubes.specs.Cubes.{within}

-- ---- one place

-- a place that care has, and one that it has not
pub cared_lane : (b care k : ℕ) → bit_at care k ≡ true → bit_at (bit_and b care) k ≡ bit_at b k
cared_lane b care k h = rw (and_bit b care k, h) (and-true (bit_at b k))

pub open_lane : (b care k : ℕ) → bit_at care k ≡ false → bit_at (bit_and b care) k ≡ false
open_lane b care k h = rw (and_bit b care k) (and_right _ _ h)

-- ---- one more place

two_digits : (m q p r s : ℕ) → q < 2 → p < 2 → r < m → s < m → eqb (q * m + r) (p * m + s) ≡ (eqb r s && same (eqb p 1) (eqb q 1))
two_digits m zero zero r s hq hp hr hs = grind (arith, nat_tests)
two_digits m zero (suc zero) r s hq hp hr hs = grind (arith, nat_tests)
two_digits m (suc zero) zero r s hq hp hr hs = grind (arith, nat_tests)
two_digits m (suc zero) (suc zero) r s hq hp hr hs = grind (arith, nat_tests)
two_digits m zero (suc (suc p)) r s hq hp hr hs = absurd (omega arith)
two_digits m (suc zero) (suc (suc p)) r s hq hp hr hs = absurd (omega arith)
two_digits m (suc (suc q)) p r s hq hp hr hs = absurd (omega arith)

pub more_places : (x y k : ℕ) → eqb (x % 2 ^ (k + 1)) (y % 2 ^ (k + 1)) ≡ (eqb (x % 2 ^ k) (y % 2 ^ k) && same (bit_at y k) (bit_at x k))
more_places x y k =
    let p = pow_pos k in
    rw (add_comm k 1, mod-pow-add x 1 k, mod-pow-add y 1 k)
    (two_digits (2 ^ k) (x / 2 ^ k % 2) (y / 2 ^ k % 2) (x % 2 ^ k) (y % 2 ^ k) (omega arith) (omega arith) (mod-lt x p) (mod-lt y p))

-- ---- the whole cube

pub row_high : (w b : ℕ) → b < 32 → (32 * w + b) / 32 ≡ w
row_high w b h = omega arith

pub row_low : (w b : ℕ) → b < 32 → (32 * w + b) % 32 ≡ b
row_low w b h = omega arith

-- a row of word w lies in a cube when w lies in its high part, and the lane in its low part
pub within_word : (care value w b : ℕ) → b < 32
    → within care value (32 * w + b) ≡ (eqb (bit_and w (care / 32)) (value / 32) && eqb (bit_and b care % 32) (value % 32))
within_word care value w b h =
    let high : bit_and (32 * w + b) care / 32 ≡ bit_and w (care / 32) = and_shr (32 * w + b) care 5 ∙ ap (λ x. bit_and x (care / 32)) (row_high w b h) in
    let low : bit_and (32 * w + b) care % 32 ≡ bit_and b care % 32 =
    and_mod (32 * w + b) care 5 ∙ ap (λ x. bit_and x (care % 32)) (row_low w b h ∙ sym (mod-eq_of_lt h)) ∙ sym (and_mod b care 5) in
    grind (arith, nat_tests)

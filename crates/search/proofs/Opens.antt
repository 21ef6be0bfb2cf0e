-- Open inputs: fixing one leaves one fewer, and where none is left the care is all ones.
use Rattle.std.proofs.Common.{◌≡◌, ℕ, ◌+◌, ◌-◌, ◌*◌, ◌/◌, ◌%◌, ◌^◌, ◌<◌, true, false, sym, ap, ◌∙◌, arith, pow_pos}
use lib.Bits.{bit_or}
use Rattle.std.proofs.Common.{◌≤◌, inl, inr, le-ltb, Option, None, Some}
use Rattle.std.specs.Prelude.{MatchOption}
use Rattle.std.proofs.lemmas.Bool.{and_left, cases_lt}
use lib.Count.{ones, ones_cat, ones_step, ones-le}
use lib.Pow.{split, ones_lt}
use Rattle.std.proofs.lemmas.Nat.Bits.{bit_at_ones, same_from_bits_below}
use Rattle.std.proofs.lemmas.Bool.Decides.{nat_tests}
use Rattle.cubes.proofs.Bits.{bit_added}
use Rattle.search.specs.Branches.{is_open, open_count, Single}

module _ (n care k : ℕ) (is : is_open n care k ≡ true) where
  pub open_below : k < n
  open_below = grind (arith, nat_tests)

  pub open_bit : care / 2 ^ k % 2 ≡ 0
  open_bit = grind (arith, nat_tests)

pub shut_bit : (n care k : ℕ) → k < n → is_open n care k ≡ false → care / 2 ^ k % 2 ≡ 1
shut_bit n care k lt is = grind (arith, nat_tests)

-- the first open place among those of the inputs: past them none is open
pub first_open : (n care : ℕ) (r : Option ℕ)
    → MatchOption r ((k : ℕ) → 0 ≤ k → k < n → is_open n care k ≡ false) (λ k. (0 ≤ k) × (k < n) × (is_open n care k ≡ true) × ((j : ℕ) → 0 ≤ j → j < k → is_open n care j ≡ false))
    → MatchOption r (Single n care) (λ k. is_open n care k ≡ true)
first_open n care None none = λ k. elim (cases_lt k n) [
  | inl below ↦ none k (omega arith) below
  | inr above ↦ and_left _ _ (le-ltb _ _ above)
]
first_open n care (Some k) at = at.2

-- one more bit
ones_more : (care k : ℕ) → care / 2 ^ k % 2 ≡ 0 → ones (bit_or care (2 ^ k)) ≡ ones care + 1
ones_more care k h =
    let q = care / 2 ^ k in
    let r = care % 2 ^ k in
    let whole : q * 2 ^ k + r ≡ care = split care k in
    let p : 0 < 2 ^ k = pow_pos k in
    let lt : r < 2 ^ k = omega arith in
    let more : (q + 1) * 2 ^ k + r ≡ bit_or care (2 ^ k) = added_up q (2 ^ k) r ∙ ap (λ x. x + 2 ^ k) whole ∙ sym (bit_added care k h) in
    let half : (q + 1) / 2 ≡ q / 2 = omega arith in
    let odd : (q + 1) % 2 ≡ 1 = omega arith in
    omega (arith, ones_cat k q r lt, ones_cat k (q + 1) r lt, ones_step q, ones_step (q + 1), ap ones half, ap ones whole, ap ones more)
  where
    added_up : (q m r : ℕ) → (q + 1) * m + r ≡ q * m + r + m
    added_up q m r = omega arith

-- fixing an open input leaves one fewer
pub one_fewer : (n care k fixed : ℕ) → is_open n care k ≡ true → fixed ≡ bit_or care (2 ^ k) → fixed < 2 ^ n → open_count n fixed + 1 ≡ open_count n care
one_fewer n care k fixed is e lt = omega (arith, ap ones e, ones_more care k (open_bit n care k is), ones-le n fixed lt)

pub all_ones : (n care : ℕ) → care < 2 ^ n → Single n care → care ≡ 2 ^ n - 1
all_ones n care lt single =
    same_from_bits_below n care (2 ^ n - 1) lt (ones_lt n) (λ i l. shut_bit n care i l (single i) ∙ sym (bit_at_ones n i l))

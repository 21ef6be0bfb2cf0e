-- Laws of `&`, `|` and shifts on numbers of any width, whole and bit by bit.
use Rattle.std.proofs.Common.{◌≡◌, ℕ, zero, suc, ◌+◌, ◌-◌, ◌*◌, ◌/◌, ◌%◌, ◌^◌, ◌<◌, ◌≤◌, ◌⊎◌, inl, inr, mod-eq_of_lt, arith, pow_mono}
use lib.Bits.{bit_and, bit_or, and_shr, and_mod, and_comm, or_disjoint, and_le_l, and_mask}
use Rattle.std.specs.Int.{bit_at}
use Rattle.std.proofs.lemmas.Nat.{one_shl, and_assoc as assoc}
use Rattle.std.proofs.lemmas.Nat.Bits.{bit_at_and, bit_at_or, same_from_bits, and_pow, and_high_mask}

-- ---- whole numbers

pub and_assoc : (a b c : ℕ) → bit_and (bit_and a b) c ≡ bit_and a (bit_and b c)
and_assoc a b c = assoc c a b

pub and_or : (a b c : ℕ) → bit_and a (bit_or b c) ≡ bit_or (bit_and a b) (bit_and a c)
and_or a b c = same_from_bits _ _ (λ i. simp (bit_at_and, bit_at_or) (omega arith))

-- ---- what a row has at c and at d, joined

module _ (r c d v w : ℕ) (at_c : bit_and r c ≡ v) (at_d : bit_and r d ≡ w) where
  pub join_left : bit_and (bit_or v w) c ≡ v
  join_left = rw (← at_c, ← at_d) (same_from_bits _ _ (λ i. simp (bit_at_and, bit_at_or) (omega arith)))

  pub join_right : bit_and (bit_or v w) d ≡ w
  join_right = rw (← at_c, ← at_d) (same_from_bits _ _ (λ i. simp (bit_at_and, bit_at_or) (omega arith)))

  pub join_le : bit_or v w ≤ r
  join_le = rw (← at_c, ← at_d, ← (and_or r c d)) (and_le_l r (bit_or c d))

-- ---- the bit at place k

pub and_digit : (a b k : ℕ) → bit_and a b / 2 ^ k % 2 ≡ bit_and (a / 2 ^ k % 2) (b / 2 ^ k % 2)
and_digit a b k = rw and_shr (and_mod (a / 2 ^ k) (b / 2 ^ k) 1)

pub bit_apart : (a k : ℕ) → a / 2 ^ k % 2 ≡ 0 → bit_and a (2 ^ k) ≡ 0
bit_apart a k h = rw (and_pow a k, h) (omega arith)

pub bit_either : (a k : ℕ) → (bit_and a (2 ^ k) ≡ 0) ⊎ (bit_and a (2 ^ k) ≡ 2 ^ k)
bit_either a k = rw (and_pow a k) (by (bit_at a k) (omega arith))
  where
    by : (d : ℕ) → d < 2 → (d * 2 ^ k ≡ 0) ⊎ (d * 2 ^ k ≡ 2 ^ k)
    by zero l = inl (omega arith)
    by (suc zero) l = inr (omega arith)
    by (suc (suc d)) l = absurd (omega arith)

pub bit_added : (a k : ℕ) → a / 2 ^ k % 2 ≡ 0 → bit_or a (2 ^ k) ≡ a + 2 ^ k
bit_added a k h = or_disjoint a (2 ^ k) (bit_apart a k h)

-- ---- the bits below place n, and those from place k up

pub and_low : (row a n : ℕ) → row < 2 ^ n → bit_and row (bit_and a (2 ^ n - 1)) ≡ bit_and row a
and_low row a n lt = rw (and_comm a (2 ^ n - 1), ← (and_assoc row (2 ^ n - 1) a), and_mask row n, mod-eq_of_lt lt)

pub high_bits : (n k row : ℕ) → k ≤ n → row < 2 ^ n → bit_and row (2 ^ n - 2 ^ k) ≡ row / 2 ^ k * 2 ^ k
high_bits n k row le lt = and_high_mask n k le row lt

-- ---- shifts of a 32-bit word

pub one_shift : (k : ℕ) → k < 32 → (1 * 2 ^ k) % 4294967296 ≡ 2 ^ k
one_shift k lt = one_shl k 32 lt

pub below_limit : (a n : ℕ) → n ≤ 30 → a < 2 ^ n → a < 2 ^ 30
below_limit a n le lt = let m : 2 ^ n ≤ 2 ^ 30 = pow_mono le in omega arith

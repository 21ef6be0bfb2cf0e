-- What a branch gives the inputs allows each of its rows, and is settled where it is one row; so is what the output gives.
use Rattle.std.proofs.Common.{◌≡◌, ℕ, ◌/◌, ◌%◌, ◌^◌, ◌<◌, ◌≤◌, Bool, zero, suc, eqb, ltb, true, false, cond, is_some, Option, refl, ap, ◌∙◌, eqb-true, arith}
use Rattle.std.proofs.Common.{◌-◌, inl, inr, le-ltb, max, bit_or, w32, pow_mono}
use Rattle.std.proofs.lemmas.Bool.{cases_lt}
use Rattle.std.specs.Int as Int
use mathlib.Core.Bool.{and-true}
use Rattle.std.proofs.lemmas.Nat.Bits.{bit_at_or, bit_at_not, bit_at_ones, bit_at_ones_above, bit_at-lt}
use borrow.Author.Tests.{clash}
use Rattle.std.proofs.lemmas.Bool.{not-true, lt-ltb}
use Rattle.circuit.specs.declared.ternary.Ternary.{Ternary}
use Rattle.circuit.specs.declared.ternary.Ternary.TheVariants.{Zero, One, Unknown}
use Rattle.circuit.specs.Kinds.{bit_at, ternary_allows, Settled, looked}
use Rattle.cubes.specs.Cubes.{within}
use Rattle.circuit.specs.Words.{and_bit}
use Rattle.search.specs.Branches.{is_open, Single, Each, signal_of, told_at, Known}
use Rattle.search.proofs.Opens.{shut_bit}

-- a fixed input has the value's bit in each row
fixed_bit : (care value row k : ℕ) → within care value row ≡ true → care / 2 ^ k % 2 ≡ 1 → bit_at value k ≡ bit_at row k
fixed_bit care value row k w fixed = rw (← (eqb-true _ _ w), and_bit row care k, fixed) (and-true (bit_at row k))

module _ (n care value k : ℕ) (lt : k < n) where
  pub signal_allows : (row : ℕ) → within care value row ≡ true → ternary_allows (signal_of n care value k) 0 (bit_at row k) ≡ true
  signal_allows row w = by (is_open n care k) refl
    where
      allows_own : (b : Bool) → ternary_allows (cond b One Zero) 0 b ≡ true
      allows_own true = refl
      allows_own false = refl

      by : (o : Bool) → is_open n care k ≡ o → ternary_allows (cond o Unknown (cond (bit_at value k) One Zero)) 0 (bit_at row k) ≡ true
      by true e = refl
      by false e = ap (λ b. ternary_allows (cond b One Zero) 0 (bit_at row k)) (fixed_bit care value row k w (shut_bit n care k lt e)) ∙ allows_own (bit_at row k)

  pub told_signal : n ≤ 32 → told_at care value k ≡ signal_of n care value k
  told_signal few =
      let here : k % 32 ≡ k = omega arith in
      let low : ltb k n ≡ true = lt-ltb k n lt in
      rw (here, low) (by (care / 2 ^ k % 2) (omega arith) (cond (bit_at value k) One Zero))
    where
      by : (d : ℕ) → d < 2 → (t : Ternary) → cond (eqb d 1) t Unknown ≡ cond (eqb d 0) Unknown t
      by zero h t = refl
      by (suc zero) h t = refl
      by (suc (suc d)) h t = absurd (omega arith)

  pub signal_settled : is_open n care k ≡ false → Settled (ternary_allows (signal_of n care value k) 0)
  signal_settled shut = ap (λ o. is_some (looked 1 (ternary_allows (cond o Unknown (cond (bit_at value k) One Zero))) 0)) shut ∙ by (bit_at value k)
    where
      by : (b : Bool) → is_some (looked 1 (ternary_allows (cond b One Zero)) 0) ≡ true
      by true = refl
      by false = refl

-- what looking at the output tells of the rows that it allows
pub looked_known : (n care value : ℕ) (set : ℕ → Bool) (v : Ternary) (r : Option Bool) → r ≡ looked 1 (ternary_allows v) 0
    → Each n care value (λ row. ternary_allows v 0 (set row) ≡ true)
    → (Single n care → Settled (ternary_allows v 0)) → Known n care value set r
looked_known n care value set v r e allows settles = rw e (by v allows settles)
  where
    by : (u : Ternary) → Each n care value (λ row. ternary_allows u 0 (set row) ≡ true) → (Single n care → Settled (ternary_allows u 0))
        → Known n care value set (looked 1 (ternary_allows u) 0)
    by Zero a s = λ row lt w. not-true (set row) (a row lt w)
    by One a s = a
    by Unknown a s = λ single. clash (s single)

-- by the bits alone, where each place past the inputs is fixed
module _ (n care value k : ℕ) (few : n ≤ 32) (small : k < 32) where
  abbrev all_shut : ℕ
  all_shut = bit_or care (4294967295 - (2 ^ n - 1))

  shut_at : Int.bit_at all_shut k ≡ max (Int.bit_at care k) (1 - Int.bit_at (2 ^ n - 1) k)
  shut_at =
      let most : 2 ^ n ≤ 4294967296 = pow_mono {i = n} few in
      bit_at_or care (4294967295 - (2 ^ n - 1)) k ∙ ap (max (Int.bit_at care k)) (bit_at_not w32 (2 ^ n - 1) k (omega (arith, most)) small)

  told_below : k < n → told_at all_shut value k ≡ signal_of n care value k
  told_below below =
      let here : k % 32 ≡ k = omega arith in
      let kept : Int.bit_at all_shut k ≡ Int.bit_at care k = omega (arith, shut_at, bit_at_ones n k below) in
      rw here (ap (λ d. cond (eqb d 1) (cond (bit_at value k) One Zero) Unknown) kept) ∙ told_signal n care value k below few

  told_past : n ≤ k → told_at all_shut value k ≡ signal_of n care value k
  told_past past =
      let here : k % 32 ≡ k = omega arith in
      let shut : Int.bit_at all_shut k ≡ 1 = omega (arith, shut_at, bit_at_ones_above n k past, bit_at-lt care k) in
      let high : ltb k n ≡ false = le-ltb k n past in
      rw (here, shut, high) refl

  pub told_shut : told_at all_shut value k ≡ signal_of n care value k
  told_shut = elim (cases_lt k n) [ inl below ↦ told_below below | inr past ↦ told_past past ]

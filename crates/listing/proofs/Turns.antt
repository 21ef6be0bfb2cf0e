-- One turn of the widening: an input is opened or stays fixed, and what is left gives the widest care.
use Rattle.std.proofs.Common.{◌≡◌, ℕ, zero, suc, ◌+◌, ◌-◌, ◌*◌, ◌%◌, ◌^◌, ◌<◌, ◌≤◌, Bool, true, false, cond, List, sym, refl, mod-eq_of_lt, pow-suc, arith, pow_pos}
use lib.Bits.{bit_and, and_le_r}
use Rattle.cubes.specs.declared.entry.Entry.{Entry}
use Rattle.cubes.specs.Cubes.{held}
use Rattle.listing.specs.Widest.{without, good, rest, widened, good_around}
use Rattle.listing.proofs.Settled.{rest_more}

rest_opened : (b h : ℕ) → rest (suc b) h - 2 ^ b ≡ rest b (2 * h)
rest_opened b h = rw (pow-suc 2 b) (omega (arith, pow_pos b))

module _ (fits : ℕ → Bool) where
  widened_step : (b h : ℕ) → widened fits (suc b) h ≡ widened fits b (2 * h + cond (fits (rest b (2 * h))) 0 1)
  unfolding widened
  widened_step b h = refl

  -- with k inputs left, the first is opened (t) or stays fixed
  turn : (k h care : ℕ) → 0 < k → care ≡ rest k h → (t : Bool) → fits (care - 2 ^ (k - 1)) ≡ t
      → (cond t (care - 2 ^ (k - 1)) care ≡ rest (k - 1) (2 * h + cond t 0 1)) × (widened fits (k - 1) (2 * h + cond t 0 1) ≡ widened fits k h)
  turn k h care l is true e =
      let w = rest_opened (k - 1) h in (grind arith, grind (arith, widened_step (k - 1) h))
  turn k h care l is false e =
      let w = rest_opened (k - 1) h in (grind (arith, rest_more (k - 1) h), grind (arith, widened_step (k - 1) h))

  -- no input is left
  pub turns_done : (k h care widest : ℕ) → k ≤ 0 → care ≡ rest k h → widened fits k h ≡ widest → care ≡ widest
  unfolding widened
  turns_done zero h care widest z is e = omega arith
  turns_done (suc k) h care widest z is e = absurd (omega arith)

-- what is_good told of the wider cube, of numbers c and v, while the decider meant S'
module _ (n : ℕ) (S S' : ℕ → Bool) (shut : List Entry) (row : ℕ) (same : S' ≡ S) (k h care wider c v : ℕ) (some_left : 0 < k) (is : care ≡ rest k h)
    (small : care < 2 ^ 30) (less : wider ≡ care - 2 ^ (k - 1)) (c_is : c ≡ wider % 2 ^ 30) (v_is : v ≡ bit_and row wider % 2 ^ 30) where
  abbrev fits : ℕ → Bool
  fits = good_around n (without S (held shut)) row

  pub turn_told : (t : Bool) → t ≡ good n (without S' (held shut)) c v
      → (cond t wider care ≡ rest (k - 1) (2 * h + cond t 0 1)) × (widened fits (k - 1) (2 * h + cond t 0 1) ≡ widened fits k h)
  turn_told t e =
      let below : wider < 2 ^ 30 = omega arith in
      let value : bit_and row wider % 2 ^ 30 ≡ bit_and row wider = mod-eq_of_lt (omega (arith, and_le_r row wider)) in
      rw less (turn fits k h care some_left is t (rw (same, c_is, v_is, mod-eq_of_lt below, value, less) at (sym e)))

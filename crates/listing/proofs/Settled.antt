-- Widening, for any test of cares: the result fits, lies below 2 ^ n, and is the one settled care.
use Rattle.std.proofs.Common.{◌≡◌, ℕ, zero, suc, ◌+◌, ◌-◌, ◌*◌, ◌/◌, ◌%◌, ◌^◌, ◌<◌, Bool, true, false, cond, ◌↔◌, sym, ap, ◌∙◌, subst, inl, inr, mod-lt, pow-suc, arith, pow_pos, shr-shr}
use native.Mathlib.Nat.{div-eq_of_lt}
use lib.Pow.{split}
use Rattle.std.proofs.lemmas.Bool.{cases_lt}
use Rattle.listing.specs.Widest.{rest, widened, Settled}
use Rattle.listing.proofs.Cares.{halves}

-- the last b inputs fixed, one of them at a time
pub rest_more : (b h : ℕ) → rest b (2 * h + 1) ≡ rest (suc b) h
rest_more b h = rw (pow-suc 2 b) (omega (arith, pow_pos b))

module _ (fits : ℕ → Bool) where
  pub widened_high : (b h : ℕ) → widened fits b h / 2 ^ b ≡ h
  unfolding widened
  widened_high zero h = omega arith
  widened_high (suc b) h =
      let x : ℕ = 2 * h + cond (fits (rest b (2 * h))) 0 1 in grind (arith, widened_high b x, shr-shr (widened fits b x) b 1)

  pub widened_below : (b : ℕ) → widened fits b 0 < 2 ^ b
  widened_below b = let c : ℕ = widened fits b 0 in grind (arith, widened_high b 0, split c b, mod-lt c (pow_pos b))

  pub widened_fits : (b h : ℕ) → fits (rest b h) ≡ true → fits (widened fits b h) ≡ true
  unfolding widened
  widened_fits zero h e = ap fits (let k : h ≡ h * 1 + (1 - 1) = omega arith in k) ∙ e
  widened_fits (suc b) h e = widened_fits b _ (grind (arith, rest_more b h))

  -- ---- without steps

  bits : (b h d : ℕ) → d < b → (widened fits b h / 2 ^ d) % 2 ≡ cond (fits (rest d (2 * (widened fits b h / 2 ^ suc d)))) 0 1
  unfolding widened
  bits zero h d l = absurd (omega arith)
  bits (suc b) h d l =
      elim (cases_lt d b) [
        | inl k ↦ bits b (2 * h + cond (fits (rest b (2 * h))) 0 1) d k
        | inr k ↦ (let same : d ≡ b = omega arith in rw (same, widened_high (suc b) h, widened_high b _) (grind arith))
      ]

  -- an input that stays fixed could not be opened
  pub widened_fixed : (n b : ℕ) → b < n → (widened fits n 0 / 2 ^ b) % 2 ≡ 1 → fits (rest b (2 * (widened fits n 0 / 2 ^ suc b))) ≡ false
  widened_fixed n b l e = grind (arith, bits n 0 b l)

  settled : (n : ℕ) → Settled fits n (widened fits n 0)
  settled n = (widened_below n, bits n 0)

  -- from the first input on, the bits of two settled cares are the same
  sole_from : (n C C' : ℕ) → Settled fits n C → Settled fits n C' → (d b : ℕ) → d + b ≡ n → C / 2 ^ b ≡ C' / 2 ^ b
  sole_from n C C' s s' zero b e =
      let k : b ≡ n = omega arith in rw k (div-eq_of_lt s.0 ∙ sym (div-eq_of_lt s'.0))
  sole_from n C C' s s' (suc d) b e =
      let ih = sole_from n C C' s s' d (suc b) (omega arith) in
      grind (arith, halves C b, halves C' b, s.1 b (omega arith), s'.1 b (omega arith))

  pub widened_settled : (n care : ℕ) → (widened fits n 0 ≡ care) ↔ Settled fits n care
  widened_settled n care = (
    (λ e. subst (Settled fits n) e (settled n)),
    λ s. let e = sole_from n _ care (settled n) s n 0 (omega arith) in omega arith,
  )

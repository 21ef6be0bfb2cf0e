-- A branch is its two halves: what fits in one of them fits in it, and what fits in it fits in one of them.
use Rattle.std.proofs.Common.{◌≡◌, ℕ, ◌/◌, ◌%◌, ◌^◌, ◌<◌, Bool, true, false, cond, ◌⊎◌, List, Some, None, Option, ◌∙◌, ap₂, inl, inr, arith, eq-eqb, eqb-true}
use lib.Bits.{bit_and, bit_or, and_comm, or_zero_r, or_lt, and_le_r}
use lib.Pow.{pow-lt}
use Rattle.std.proofs.lemmas.Nat.{and_or_apart}
use Rattle.std.proofs.lemmas.Nat.Bits.{bit_at_and, bit_at_or, same_from_bits}
use Rattle.cubes.specs.declared.entry.Entry.{Entry}
use Rattle.cubes.specs.Deciders.{Fitting, Answer}
use Rattle.cubes.proofs.Bits.{and_or, bit_apart, bit_either}

-- ---- a half is a branch

pub below_or : (x k n : ℕ) → x < 2 ^ n → k < n → bit_or x (2 ^ k) < 2 ^ n
below_or x k n h p = or_lt n x (2 ^ k) h (pow-lt p)

pub value_below : (value care n : ℕ) → care < 2 ^ n → bit_and value care ≡ value → value < 2 ^ n
value_below value care n h inside = omega (arith, and_le_r value care)

pub inside_half : (bit : Bool) (value care b : ℕ) → bit_and value care ≡ value
    → bit_and (cond bit (bit_or value b) value) (bit_or care b) ≡ cond bit (bit_or value b) value
inside_half true value care b inside = rw (← inside) (same_from_bits _ _ (λ i. simp (bit_at_and, bit_at_or) (omega arith)))
inside_half false value care b inside = rw (← inside) (same_from_bits _ _ (λ i. simp (bit_at_and, bit_at_or) (omega arith)))

-- ---- the rows of the halves

module _ (row care value b : ℕ) (inside : bit_and value care ≡ value) where
  -- what a half fixes, the whole fixes
  via : (x : ℕ) → bit_and row (bit_or care b) ≡ x → bit_and row care ≡ bit_and x care
  via x h = rw (← h) (same_from_bits _ _ (λ i. simp (bit_at_and, bit_at_or) (omega arith)))

  from_zero : bit_and row (bit_or care b) ≡ value → bit_and row care ≡ value
  from_zero h = via value h ∙ inside

  from_one : bit_and care b ≡ 0 → bit_and row (bit_or care b) ≡ bit_or value b → bit_and row care ≡ value
  from_one apart h = via (bit_or value b) h ∙ and_or_apart care value b (and_comm b care ∙ apart) ∙ inside

to_half : (row care value k : ℕ) → bit_and row care ≡ value
    → (bit_and row (bit_or care (2 ^ k)) ≡ value) ⊎ (bit_and row (bit_or care (2 ^ k)) ≡ bit_or value (2 ^ k))
to_half row care value k h =
    elim (bit_either row k) [
      | inl zero_bit ↦ inl (and_or row care (2 ^ k) ∙ ap₂ bit_or h zero_bit ∙ or_zero_r value)
      | inr one_bit ↦ inr (and_or row care (2 ^ k) ∙ ap₂ bit_or h one_bit)
    ]

-- ---- the answers of the halves

module _ (n : ℕ) (set : ℕ → Bool) (wanted : Bool) (barred : List Entry) where
  -- a row that fits fits also in another cube that holds it
  pub moved : (row c v c' v' : ℕ) → (bit_and row c ≡ v → bit_and row c' ≡ v') → Fitting n set c v wanted barred row → Fitting n set c' v' wanted barred row
  moved row c v c' v' to f =
      record { below = f.below; inside = eq-eqb _ _ (to (eqb-true _ _ f.inside)); free = f.free; kind = f.kind }

  module _ (care value k : ℕ) (inside : bit_and value care ≡ value) (free : care / 2 ^ k % 2 ≡ 0) where
    pub first_half : (row n' c v : ℕ) → n' ≡ n → c ≡ bit_or care (2 ^ k) → v ≡ value → Fitting n' set c v wanted barred row → Fitting n set care value wanted barred row
    first_half row n' c v en ec ev f = moved row _ _ _ _ (from_zero row care value (2 ^ k) inside) (rw (en, ec, ev) at f)

    pub second_half : (r : Option ℕ) (n' c v n'' c' v' : ℕ) → n' ≡ n → c ≡ bit_or care (2 ^ k) → v ≡ value → n'' ≡ n → c' ≡ bit_or care (2 ^ k) → v' ≡ bit_or value (2 ^ k)
        → ((row : ℕ) → Fitting n' set c v wanted barred row → ⊥)
        → Answer n'' set c' v' wanted barred r → Answer n set care value wanted barred r
    second_half None n' c v n'' c' v' en ec ev en' ec' ev' none-zero none-one =
        λ row f. elim (to_half row care value k (eqb-true _ _ f.inside)) [
          | inl h ↦ none-zero row (rw (en, ec, ev) (moved row care value _ _ (λ _. h) f))
          | inr h ↦ none-one row (rw (en', ec', ev') (moved row care value _ _ (λ _. h) f))
        ]
    second_half (Some row) n' c v n'' c' v' en ec ev en' ec' ev' none-zero f =
        moved row _ _ _ _ (from_one row care value (2 ^ k) inside (bit_apart care k free)) (rw (en', ec', ev') at f)

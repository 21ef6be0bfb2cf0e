-- What a decider's answers say of the lead and of a good cube.
use Rattle.std.proofs.Common.{◌≡◌, ℕ, ◌-◌, ◌*◌, ◌/◌, ◌^◌, ◌<◌, ◌≤◌, Bool, true, false, ltb, List, [], Some, None, Option, is_some, is_none, sym, refl, ◌∙◌, arith, shr-shr}
use lib.Pow.{shl-shr}
use borrow.Author.Tests.{clash}
use Rattle.std.proofs.lemmas.Bool.{false_from_ne_true, true_from_ne_false, eq-eqb, eqb-true, ltb-true, and_parts}
use Rattle.std.proofs.lemmas.Bool.Decides.{nat_tests}
use Rattle.cubes.specs.declared.entry.Entry.{Entry}
use Rattle.cubes.specs.Cubes.{within, holds, held, Touches}
use Rattle.cubes.specs.Deciders.{Answer}
use Rattle.cubes.proofs.Bits.{high_bits}
use Rattle.cubes.proofs.Entries.{holds_at, held_at, held_none}
use Rattle.listing.specs.Widest.{without, lead, good}
use Rattle.listing.proofs.Least.{least_is}
use Rattle.listing.proofs.Goodness.{without_parts, without_from, good_from, not_good}

-- a row of the set that no barred entry holds
pub record Free (n : ℕ) (set : ℕ → Bool) (barred : List Entry) (row : ℕ) : Type 0 where
  pub below : row < 2 ^ n
  pub free : without set (held barred) row ≡ true

-- ---- the lead

-- the bits that are put in their place
placed : (x y k : ℕ) → x * 2 ^ k ≡ y * 2 ^ k → x ≡ y
placed x y k e = sym (shl-shr x k) ∙ rw e (shl-shr y k)

module _ (n : ℕ) (set : ℕ → Bool) (barred : List Entry) where
  pub lead_none : ((row : ℕ) → Free n set barred row → ⊥) → lead n (without set (held barred)) ≡ None
  lead_none f = least_is _ (2 ^ n) None (λ row l. false_from_ne_true _ (λ e. f row (record { below = l; free = e })))

  pub lead_some : (x : ℕ) → Free n set barred x → ((row : ℕ) → Free n set barred row → x ≤ row) → lead n (without set (held barred)) ≡ Some x
  lead_some x f g =
      least_is _ (2 ^ n) (Some x)
      (record {
        below = f.below;
        passes = f.free;
        first = λ s l. false_from_ne_true _ (λ e. let b = f.below in absurd (omega (arith, g s (record { below = omega arith; free = e }))));
      })

  -- a question of the bits from place k up
  module _ (k high : ℕ) (le : k ≤ n) where
    pub probe_none : Answer n set (2 ^ n - 2 ^ k) (high * 2 ^ k) true barred None → (row : ℕ) → Free n set barred row → row / 2 ^ k ≡ high → ⊥
    probe_none none row f e =
        let p = without_parts set (held barred) row f.free in
        none row (record { below = f.below; inside = eq-eqb _ _ (rw e at (high_bits n k row le f.below)); free = p.1; kind = p.0 })

    pub probe_some : (row : ℕ) → Answer n set (2 ^ n - 2 ^ k) (high * 2 ^ k) true barred (Some row) → Free n set barred row × (row / 2 ^ k ≡ high)
    probe_some row f =
        let e = sym (high_bits n k row le f.below) ∙ eqb-true _ _ f.inside in
        (record { below = f.below; free = without_from set (held barred) row f.kind f.free }, placed (row / 2 ^ k) high k e)

-- ---- a good cube

module _ (n : ℕ) (set : ℕ → Bool) (shut : List Entry) (care value : ℕ) where
  spoilt : (row : ℕ) → row < 2 ^ n → within care value row ≡ true → without set (held shut) row ≡ false → good n (without set (held shut)) care value ≡ false
  spoilt row l w = not_good n (without set (held shut)) care value row (grind (arith, nat_tests))

  -- by what the test of the shut entries and the decider gave
  pub good_touched : (r : Option ℕ) → Touches n care value shut r → true ≡ is_some r → good n (without set (held shut)) care value ≡ false
  good_touched None t e = absurd (clash (sym e))
  good_touched (Some i) t e =
      let s = t.1.1 in spoilt t.1.0 s.below s.inside (grind (arith, held_at shut i t.1.0 t.0 s.held))

  pub good_told : (touched wrong : Option ℕ) → Touches n care value shut touched → false ≡ is_some touched → Answer n set care value false [] wrong
      → is_none wrong ≡ good n (without set (held shut)) care value
  good_told (Some i) wrong t e a = absurd (clash e)
  good_told None (Some row) t e a = sym (spoilt row a.below a.inside (grind (arith, a.kind)))
  good_told None None t e a = sym (good_from n (without set (held shut)) care value all)
    where
      all : (r : ℕ) → holds n care value r ≡ true → without set (held shut) r ≡ true
      all r h =
          let p = and_parts (ltb r (2 ^ n)) (within care value r) h in
          let l = ltb-true r (2 ^ n) p.0 in
          let free = held_none shut r (λ i k. false_from_ne_true (holds_at shut i r) (λ g. t i k (r, record { below = l; inside = p.1; held = g }))) in
          without_from set (held shut) r (true_from_ne_false (set r) (λ s. a r (record { below = l; inside = p.1; free = refl; kind = s }))) free

-- ---- halves of a row

-- one more bit of both
pub halved : (x y k : ℕ) → 0 < k → x / 2 ^ k ≤ y / 2 ^ k → x / 2 ^ (k - 1) / 2 ≤ y / 2 ^ (k - 1) / 2
halved x y k p h = grind (arith, shr-shr x (k - 1) 1, shr-shr y (k - 1) 1)

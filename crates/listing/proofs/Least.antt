-- The smallest number that passes a test: what `least` gives, as a relation.
use Rattle.std.proofs.Common.{◌≡◌, ℕ, zero, suc, ◌<◌, Bool, true, false, cond, Some, None, Option, refl, ap, subst, ap₂, arith, is_none}
use Rattle.std.specs.Option.{option_or}
use Rattle.std.specs.Bool.{MatchBool}
use Rattle.std.proofs.lemmas.Bool.{MatchBool-at_true, MatchBool-at_false, both_ways, false_from_ne_true}
use Rattle.listing.specs.Widest.{least}

pub record Least (P : ℕ → Bool) (k r : ℕ) : Type 0 where
  pub below : r < k
  pub passes : P r ≡ true
  pub first : (s : ℕ) → s < r → P s ≡ false

abbrev pub Found : (ℕ → Bool) → ℕ → Option ℕ → Type 0
Found P k (Some r) = Least P k r
Found P k None = (s : ℕ) → s < k → P s ≡ false

step : (P : ℕ → Bool) (k : ℕ) (o : Option ℕ) (t : Bool) → P k ≡ t → Found P k o → Found P (suc k) (option_or o (cond t (Some k) None))
step P k (Some r) t e f = record { below = let h = f.below in omega arith; passes = f.passes; first = f.first }
step P k None true e f = record { below = omega arith; passes = e; first = f }
step P k None false e f = λ s h. grind (arith, f s)

pub found : (P : ℕ → Bool) (k : ℕ) → Found P k (least P k)
unfolding least
found P zero = λ s h. absurd (omega arith)
found P (suc k) = step P k (least P k) (P k) refl (found P k)

pub least_some : (P : ℕ → Bool) (k r : ℕ) → least P k ≡ Some r → Least P k r
least_some P k r e = subst (Found P k) e (found P k)

pub least_none : (P : ℕ → Bool) (k : ℕ) → least P k ≡ None → (s : ℕ) → s < k → P s ≡ false
least_none P k e = subst (Found P k) e (found P k)

-- what is so found is the answer
pub least_is : (P : ℕ → Bool) (k : ℕ) (o : Option ℕ) → Found P k o → least P k ≡ o
least_is P k o = go (least P k) o (found P k)
  where
    go : (a b : Option ℕ) → Found P k a → Found P k b → a ≡ b
    go (Some r) (Some s) f g = grind (arith, g.first r, f.first s, f.passes, g.passes)
    go (Some r) None f g = grind (arith, g r, f.below, f.passes)
    go None (Some s) f g = grind (arith, f s, g.below, g.passes)
    go None None f g = refl

pub least_cong : (P Q : ℕ → Bool) (k : ℕ) → ((r : ℕ) → r < k → P r ≡ Q r) → least P k ≡ least Q k
unfolding least
least_cong P Q zero h = refl
least_cong P Q (suc k) h =
    ap₂ (λ (o : Option ℕ) (t : Bool). option_or o (cond t (Some k) None)) (least_cong P Q k (λ r l. h r (omega arith))) (h k (omega arith))

-- ---- whether any number passes

module _ (P : ℕ → Bool) (k : ℕ) where
  tells : (o : Option ℕ) → Found P k o → MatchBool (is_none o) ((s : ℕ) → s < k → P s ≡ false) ((r : ℕ) × (r < k) × (P r ≡ true))
  tells (Some r) f = (r, f.below, f.passes)
  tells None f = f

  pub none_all : is_none (least P k) ≡ true → (s : ℕ) → s < k → P s ≡ false
  none_all e = MatchBool-at_true _ _ e (tells (least P k) (found P k))

  pub none_not : is_none (least P k) ≡ false → (r : ℕ) × (r < k) × (P r ≡ true)
  none_not e = MatchBool-at_false _ _ e (tells (least P k) (found P k))

  pub none_from : ((s : ℕ) → s < k → P s ≡ false) → is_none (least P k) ≡ true
  none_from h = ap is_none (least_is P k None h)

  pub some_from : (r : ℕ) → r < k → P r ≡ true → is_none (least P k) ≡ false
  some_from r l e = false_from_ne_true _ (λ n. both_ways (P r) (none_all n r l) e)

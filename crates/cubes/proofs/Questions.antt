-- A decider that is asked nothing, and one that is asked again, is kept; cubes and sets with the same rows have the same answers.
use Rattle.std.proofs.Common.{◌≡◌, ℕ, ◌^◌, ◌<◌, Bool, List, Some, None, Option, sym, refl, ◌∙◌}
use Rattle.cubes.specs.declared.entry.Entry.{Entry}
use Rattle.cubes.specs.Cubes.{within}
use Rattle.cubes.specs.Deciders.{Fitting, Answer, Kept}

module _ {D : Type 0} (arity : D → ℕ) (set : D → ℕ → Bool) where
  pub kept_still : (d : D) → Kept arity set d d
  kept_still d = record { inputs = refl; rows = refl }

  pub kept_on : (d e f : D) → Kept arity set d e → Kept arity set e f → Kept arity set d f
  kept_on d e f first then = record { inputs = then.inputs ∙ first.inputs; rows = then.rows ∙ first.rows }

module _ (n : ℕ) (wanted : Bool) (barred : List Entry) where
  fits_alike : (set set' : ℕ → Bool) (care value care' value' row : ℕ) → (row < 2 ^ n → within care value row ≡ within care' value' row) → (row < 2 ^ n → set row ≡ set' row)
      → Fitting n set care value wanted barred row → Fitting n set' care' value' wanted barred row
  fits_alike set set' care value care' value' row cube kind f =
      record { below = f.below; inside = sym (cube f.below) ∙ f.inside; free = f.free; kind = sym (kind f.below) ∙ f.kind }

  pub same_answer : (set set' : ℕ → Bool) (care value care' value' : ℕ) → ((row : ℕ) → row < 2 ^ n → within care value row ≡ within care' value' row)
      → ((row : ℕ) → row < 2 ^ n → set row ≡ set' row) → (r : Option ℕ) → Answer n set care value wanted barred r → Answer n set' care' value' wanted barred r
  same_answer set set' care value care' value' cube kind None none =
      λ row f. none row (fits_alike set' set care' value' care value row (λ l. sym (cube row l)) (λ l. sym (kind row l)) f)
  same_answer set set' care value care' value' cube kind (Some row) f = fits_alike set set' care value care' value' row (cube row) (kind row) f

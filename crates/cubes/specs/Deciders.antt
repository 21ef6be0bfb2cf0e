-- What a decider answers to a question: a cube, a wanted bit and a list of barred entries.
--   Fitting   a row of n inputs in the cube that no barred entry holds, in the set if the wanted bit is true, else outside it
--   Answer    a fitting row, or nothing where no row fits
--   Kept      neither the number of inputs nor the set has changed
-- Assumes nothing.
use Rattle.std.specs.Prelude.{◌≡◌, ℕ, ◌^◌, ◌<◌, Bool, true, false, List, Option, MatchOption}
use Rattle.cubes.specs.declared.entry.Entry.{Entry}
use Rattle.cubes.specs.Cubes.{within, held}

pub record Fitting (n : ℕ) (set : ℕ → Bool) (care value : ℕ) (wanted : Bool) (barred : List Entry) (row : ℕ) : Type 0 where
  pub below : row < 2 ^ n
  pub inside : within care value row ≡ true
  pub free : held barred row ≡ false
  pub kind : set row ≡ wanted

abbrev pub Answer : ℕ → (ℕ → Bool) → ℕ → ℕ → Bool → List Entry → Option ℕ → Type 0
Answer n set care value wanted barred r =
    MatchOption r ((row : ℕ) → Fitting n set care value wanted barred row → ⊥) (λ row. Fitting n set care value wanted barred row)

pub record Kept {D : Type 0} (arity : D → ℕ) (set : D → ℕ → Bool) (old new : D) : Type 0 where
  pub inputs : arity new ≡ arity old
  pub rows : set new ≡ set old

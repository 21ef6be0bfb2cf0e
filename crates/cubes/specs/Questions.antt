-- What a decider of so many inputs and this set answers to a question. Assumes nothing.
use Rattle.std.specs.Prelude.{ℕ, Bool, Option}
use Rattle.cubes.specs.declared.decider.Question.{Question}
use Rattle.cubes.specs.Deciders.{Answer}

abbrev pub Answered : ℕ → (ℕ → Bool) → Question → Option ℕ → Type 0
Answered n set q r = Answer n set q.cube.care q.cube.value q.wanted q.barred.now r

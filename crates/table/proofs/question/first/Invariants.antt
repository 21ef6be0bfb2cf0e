use Rattle.std.proofs.Common.{ℕ, ◌*◌, ◌<◌}
use Rattle.cubes.specs.Deciders.{Fitting}
use Rattle.table.specs.Tables.{table_rows}
use Rattle.table.proofs.question.first.Given as goal

-- no row of the words so far fits
abbrev pub invariant-loop-w : goal.invariant-loop-w
invariant-loop-w l = (row : ℕ) → row < 32 * l.w → Fitting l.n (table_rows l.bits) l.question.cube.care l.question.cube.value l.question.wanted l.question.barred.now row → ⊥

use Rattle.std.proofs.Common.{◌+◌, ◌-◌}
use Rattle.pla.specs.Text.{cube_line, ended}
use Rattle.pla.proofs.Writing.{Left}
use Rattle.pla.proofs.line.write_cube.Given as goal

-- what is left of the line
abbrev pub invariant-loop-input : goal.invariant-loop-input
invariant-loop-input l =
    Left l.initial.writer (ended (cube_line l.n l.cube.care l.cube.value)) l.writer (ended (cube_line (l.n + 1 - l.input) l.cube.care l.cube.value))

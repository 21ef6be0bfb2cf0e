use Rattle.pla.proofs.Parts.{lines_from}
use Rattle.pla.proofs.Writing.{Left}
use Rattle.pla.proofs.write.write_list.Given as goal

-- what is left of the lines, and the end
abbrev pub invariant-loop-entry : goal.invariant-loop-entry
invariant-loop-entry l = Left l.initial.writer (lines_from l.n l.cubes 0) l.writer (lines_from l.n l.cubes l.entry-index)

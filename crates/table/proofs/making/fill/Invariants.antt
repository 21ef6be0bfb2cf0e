use Rattle.std.proofs.Common.{◌≡◌, map, take}
use Rattle.std.specs.List.{range_with_len}
use Rattle.circuit.specs.Netlists.{netlist}
use Rattle.circuit.specs.Solutions.{solves}
use Rattle.table.specs.Tables.{word_of}
use Rattle.table.proofs.making.fill.Given as goal

-- the words so far are the table's
abbrev pub invariant-loop-w : goal.invariant-loop-w
invariant-loop-w l = take l.w l.words ≡ map (word_of l.circuit.inputs (solves (netlist l.circuit))) (range_with_len 0 l.w)

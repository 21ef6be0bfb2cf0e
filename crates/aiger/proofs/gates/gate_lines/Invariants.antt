use Rattle.std.proofs.Common.{◌≡◌, ◌-◌}
use Rattle.aiger.specs.Lines.{gates_at}
use Rattle.aiger.proofs.gates.gate_lines.Given as goal

abbrev pub invariant-loop-k : goal.invariant-loop-k
invariant-loop-k l = gates_at l.file.bytes.now l.counts.inputs l.k (l.counts.gates - l.k) l.at l.table ≡ gates_at l.file.bytes.now l.counts.inputs 0 l.counts.gates l.start l.initial.table

use Rattle.std.proofs.Common.{◌≡◌, ◌+◌, ◌-◌}
use Rattle.aiger.specs.Lines.{inputs_at}
use Rattle.aiger.proofs.literals.input_lines.Given as goal

abbrev pub invariant-loop-k : goal.invariant-loop-k
invariant-loop-k l = inputs_at l.file.bytes.now l.at l.k (l.fn.counts.inputs + 1 - l.k) ≡ inputs_at l.file.bytes.now l.start 1 l.fn.counts.inputs

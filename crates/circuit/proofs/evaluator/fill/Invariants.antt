use Rattle.std.proofs.Common.{◌≡◌, ◌+◌, ◌*◌, ◌/◌, length, take, drop}
use Rattle.circuit.specs.Circuits.{grown}
use Rattle.circuit.proofs.evaluator.fill.Given as goal

abbrev pub invariant-loop-k : goal.invariant-loop-k
invariant-loop-k g l = let o = g.V.Value.ops in
    (grown o (drop (2 * l.k) l.gates) (take (l.first + l.k) l.values) ≡ grown o l.gates (take l.first l.initial.values))
    × (drop (l.first + length l.gates / 2) l.values ≡ drop (l.first + length l.gates / 2) l.initial.values)

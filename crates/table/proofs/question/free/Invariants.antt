use Rattle.std.proofs.Common.{◌≡◌, ℕ, ◌+◌, ◌*◌, ◌<◌, not, ◌&&◌, drop}
use Rattle.circuit.specs.Kinds.{bit_at}
use Rattle.cubes.specs.Cubes.{held}
use Rattle.table.proofs.question.free.Given as goal

-- what the entries left over take from the lanes left over is what all of them take from the first lanes
abbrev pub invariant-loop-e : goal.invariant-loop-e
invariant-loop-e l =
    (b : ℕ) → b < 32
    → (bit_at l.left b && not (held (drop l.e-index l.barred) (32 * l.w + b))) ≡ (bit_at l.start b && not (held l.barred (32 * l.w + b)))

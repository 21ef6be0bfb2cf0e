use Rattle.std.proofs.Common.{◌%◌, ◌^◌, eqb}
use lib.Bits.{bit_and}
use Rattle.circuit.specs.Lanes.{Lanes}
use Rattle.table.proofs.lanes.low_places.Given as goal

abbrev pub invariant-loop-k : goal.invariant-loop-k
invariant-loop-k l = Lanes l.left (λ b. eqb (bit_and b l.cube.care % 2 ^ l.k) (l.cube.value % 2 ^ l.k))

use Rattle.std.proofs.Common.{arith}
use Rattle.circuit.proofs.Lanes.{not_lane}
use Rattle.table.proofs.lanes.of_kind.Goals as goal

pub returns-else-wanted : goal.returns-else-wanted
returns-else-wanted c = λ b l. rw c.if-wanted.false (not_lane c.args.word b (omega arith) l)

use Rattle.circuit.specs.Words.{and_bit}
use Rattle.circuit.proofs.WordRows.{used_row}
use Rattle.table.proofs.question.candidates.Goals as goal

pub returns : goal.returns
returns c = λ b l.
    simp (c.free.ensures b l, and_bit, c.of_kind.ensures b l, c.used_lanes.ensures b l, used_row c.args.n c.args.w b c.requires l, c.mask.ensures b l)

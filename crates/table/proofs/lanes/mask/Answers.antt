use Rattle.std.proofs.Common.{eq-eqb, ne_eqb}
use Rattle.circuit.proofs.Lanes.{zero_lane}
use Rattle.table.proofs.Masks.{within_word}
use Rattle.table.proofs.lanes.mask.Goals as goal

pub returns-then-w-care : goal.returns-then-w-care
returns-then-w-care c = λ b l.
    rw (within_word c.args.cube.care c.args.cube.value c.args.w b l, eq-eqb _ _ (simp (c.care.ensures, c.value.ensures) at c.if-w-care.true))
    (c.low_places.ensures b l)

pub returns-else-w-care : goal.returns-else-w-care
returns-else-w-care c = λ b l.
    rw (within_word c.args.cube.care c.args.cube.value c.args.w b l, ne_eqb _ _ (simp (c.care.ensures, c.value.ensures) at c.if-w-care.false))
    (zero_lane b)

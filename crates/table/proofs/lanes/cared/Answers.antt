use Rattle.std.proofs.Common.{sym, ◌∙◌, eq-eqb, ne_eqb}
use Rattle.circuit.proofs.Lanes.{zero_lane}
use Rattle.table.proofs.Masks.{cared_lane, open_lane}
use Rattle.table.proofs.lanes.cared.Goals as goal

pub returns-then-care-k-eq1 : goal.returns-then-care-k-eq1
returns-then-care-k-eq1 c = λ b l. c.pattern.ensures b l ∙ sym (cared_lane b c.args.care c.args.k (eq-eqb _ _ c.if-care-k-eq1.true))

pub returns-else-care-k-eq1 : goal.returns-else-care-k-eq1
returns-else-care-k-eq1 c = λ b l. zero_lane b ∙ sym (open_lane b c.args.care c.args.k (ne_eqb _ _ c.if-care-k-eq1.false))

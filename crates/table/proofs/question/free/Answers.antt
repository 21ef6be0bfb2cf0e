use Rattle.std.proofs.Common.{sym, ◌∙◌, arith}
use mathlib.Core.Bool.{and-true}
use Rattle.std.proofs.lemmas.List.{drop_more, drop_all}
use Rattle.circuit.specs.Words.{and_bit}
use Rattle.circuit.proofs.Lanes.{zero_lane, not_lane}
use Rattle.cubes.specs.Cubes.{blank}
use Rattle.table.proofs.Questions.{bar}
use Rattle.table.proofs.question.free.Goals as goal

pub returns-then-left-eq0 : goal.returns-then-left-eq0
returns-then-left-eq0 c = λ b l. zero_lane b ∙ (rw (c.if-left-eq0.true, zero_lane b) at (c.loop-e.invariant b l))

pub loop-e-preserved : goal.loop-e-preserved
loop-e-preserved c = λ b l.
    let all = rw (drop_more c.args.barred.now c.loop-e.e-index blank c.loop-e-test.true) at c.loop-e.invariant b l in
    simp (and_bit, not_lane c.mask.result b (omega arith) l, c.mask.ensures b l, c.cube.ensures.care, c.cube.ensures.value) (bar _ _ _ ∙ all)

pub returns : goal.returns
returns c = λ b l. sym (and-true _) ∙ (rw (drop_all c.loop-e.e-index c.args.barred.now c.loop-e-test.false) at c.loop-e.invariant b l)

use Rattle.std.proofs.Common.{arith}
use Rattle.table.proofs.Questions.{lowest_fits, none_fits, next_word, within_least}
use Rattle.table.proofs.question.first.Goals as goal

pub loop-w-init : goal.loop-w-init
loop-w-init c = λ row lt f. omega (arith, within_least c.args.question.cube.care c.args.question.cube.value row f.inside)

pub loop-w-preserved : goal.loop-w-preserved
loop-w-preserved c =
    next_word _ c.loop-w.w c.loop-w.invariant
    (none_fits c.args.n c.args.bits.now _ _ _ _ c.loop-w.w _ c.if-left-ne0.false c.candidates-left.ensures)

pub returns-then-left-ne0 : goal.returns-then-left-ne0
returns-then-left-ne0 c =
    lowest_fits c.args.n c.args.bits.now _ _ _ _ c.loop-w.w _ c.candidates-left.type_inv (omega arith) c.candidates-left.ensures

pub returns : goal.returns
returns c = λ row f. c.loop-w.invariant row (omega (arith, c.end_word-w-end.ensures.past row f.below f.inside)) f

use Rattle.std.proofs.Common.{Err, ap, ◌∙◌}
use Rattle.std.proofs.lemmas.Result.{err_from_is_err_and}
use Rattle.text.proofs.LineRun.{line_read, triple_line_is, triple_in}
use Rattle.text.proofs.lines.triple_line.Goals as goal

pub returns-in_err-first : goal.returns-in_err-first
returns-in_err-first c =
    let p = err_from_is_err_and c.from_residual.result c.from_residual.ensures.1 in
    p.1 ∙ ap Err p.2 ∙ line_read _ _ _ _ triple_in c.in_err-first.ensures c.new.ensures ∙ triple_line_is c.args.file.now c.args.at

pub returns : goal.returns
returns c = line_read _ _ _ _ triple_in c.in_ok-first.ensures c.new.ensures ∙ triple_line_is c.args.file.now c.args.at

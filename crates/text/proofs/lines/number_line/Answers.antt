use Rattle.std.proofs.Common.{Err, ap, ◌∙◌}
use Rattle.std.proofs.lemmas.Result.{err_from_is_err_and}
use Rattle.text.proofs.LineRun.{line_read, number_line_is, value_in}
use Rattle.text.proofs.lines.number_line.Goals as goal

pub returns-in_err-value : goal.returns-in_err-value
returns-in_err-value c =
    let p = err_from_is_err_and c.from_residual.result c.from_residual.ensures.1 in
    p.1 ∙ ap Err p.2 ∙ line_read _ _ _ _ value_in c.in_err-value.ensures c.new.ensures ∙ number_line_is c.args.file.now c.args.at

pub returns : goal.returns
returns c = line_read _ _ _ _ value_in c.in_ok-value.ensures c.new.ensures ∙ number_line_is c.args.file.now c.args.at

use Rattle.std.proofs.Common.{ap, ◌∙◌}
use Rattle.text.proofs.LineRun.{run, header_line_is}
use Rattle.text.proofs.lines.header_line.Goals as goal

pub returns : goal.returns
returns c = c.run.ensures ∙ ap (run c.args.file.now) c.new.ensures ∙ header_line_is c.args.file.now

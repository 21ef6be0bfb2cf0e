use Rattle.std.proofs.Common.{ap, ◌∙◌}
use Rattle.inspection.specs.Inspections.{inspected}
use Rattle.inspect.proofs.look.Goals as goal

pub returns : goal.returns
returns c = c.inspect.ensures.value ∙ ap (inspected c.args.file.now) (c.lend.ensures.room ∙ c.in_ok-memory.ensures.room)

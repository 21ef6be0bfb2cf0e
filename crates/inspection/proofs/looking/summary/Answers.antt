use Rattle.std.proofs.Common.{rules}
use Rattle.inspection.proofs.looking.summary.Goals as goal

pub returns : goal.returns
returns c = search rules

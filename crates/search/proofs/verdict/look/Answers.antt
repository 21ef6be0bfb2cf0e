use Rattle.std.proofs.Common.{rules}
use Rattle.search.proofs.verdict.look.Goals as goal

pub returns-then-is_some_and : goal.returns-then-is_some_and
returns-then-is_some_and c = search rules

pub returns-then-is_some : goal.returns-then-is_some
returns-then-is_some c = search rules

use Rattle.std.proofs.Common.{rules}
use Rattle.shell.proofs.failure.refuse.Goals as goal

pub returns-clause-refused : goal.returns-clause-refused
returns-clause-refused c = search rules

pub returns-clause-failure : goal.returns-clause-failure
returns-clause-failure c = search rules

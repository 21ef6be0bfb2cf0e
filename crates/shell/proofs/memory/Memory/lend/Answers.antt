use Rattle.std.proofs.Common.{rules}
use Rattle.shell.proofs.memory.Memory.lend.Goals as goal

pub returns-clause-room : goal.returns-clause-room
returns-clause-room c = search rules

pub returns-clause-lent : goal.returns-clause-lent
returns-clause-lent c = search rules

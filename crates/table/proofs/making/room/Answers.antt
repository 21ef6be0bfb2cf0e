use Rattle.std.proofs.Common.{rules}
use Rattle.table.proofs.making.room.Goals as goal

pub returns : goal.returns
returns c = search rules

pub returns-then-size-needed : goal.returns-then-size-needed
returns-then-size-needed c = search rules

use Rattle.std.proofs.Common.{rules}
use Rattle.shell.proofs.input.check_words.Goals as goal

pub returns : goal.returns
returns c = search rules

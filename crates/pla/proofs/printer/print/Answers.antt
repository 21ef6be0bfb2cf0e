use Rattle.std.proofs.Common.{rules}
use Rattle.pla.proofs.printer.print.Goals as goal

pub returns-clause-value : goal.returns-clause-value
returns-clause-value c = search rules

pub returns-then-register-held-clause-value : goal.returns-then-register-held-clause-value
returns-then-register-held-clause-value c = search rules

use Rattle.std.proofs.Common.{rules}
use Rattle.jobs.proofs.printing.print_list.Goals as goal

-- Asked of `search` alone: what the prover tries by itself after it finds nothing of a wrong body either, and takes long.
pub returns-in_err-draft-clause-value : goal.returns-in_err-draft-clause-value
returns-in_err-draft-clause-value g c = search rules

pub returns-in_err-finished-clause-value : goal.returns-in_err-finished-clause-value
returns-in_err-finished-clause-value g c = search rules

pub returns-in_err-finished-clause-register : goal.returns-in_err-finished-clause-register
returns-in_err-finished-clause-register g c = search rules

pub returns-clause-value : goal.returns-clause-value
returns-clause-value g c = search rules

pub returns-clause-register : goal.returns-clause-register
returns-clause-register g c = search rules

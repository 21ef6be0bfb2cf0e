use Rattle.std.proofs.Common.{refl, rules}
use Rattle.jobs.specs.Lists.{room_of}
use Rattle.inspection.proofs.Seen.{seen}
use Rattle.inspection.proofs.looking.inspect.Goals as goal

pub returns-clause-seen : goal.returns-clause-seen
returns-clause-seen c = seen c.args.file.now (room_of c.args.workspace) c.in_ok-summary.summary (search rules)

pub returns-in_err-reading-clause-signals : goal.returns-in_err-reading-clause-signals
returns-in_err-reading-clause-signals c = λ no. refl

-- Asked of `search` alone: what the prover tries by itself after it finds nothing of a wrong body either, and takes long.
pub returns-in_err-summary-clause-signals : goal.returns-in_err-summary-clause-signals
returns-in_err-summary-clause-signals c = search rules

pub returns-clause-signals : goal.returns-clause-signals
returns-clause-signals c = search rules

pub returns-in_err-summary-clause-words : goal.returns-in_err-summary-clause-words
returns-in_err-summary-clause-words c = search rules

pub returns-clause-words : goal.returns-clause-words
returns-clause-words c = search rules

use Rattle.std.proofs.Common.{rules}
use Rattle.inspection.proofs.looking.with_search.Goals as goal

-- Asked of `search` alone: what the prover tries by itself after it finds nothing of a wrong body either, and takes long.
pub returns-clause-value : goal.returns-clause-value
returns-clause-value c = search rules

use Rattle.cubes.proofs.Entries.{apart}
use Rattle.cubes.proofs.list.meets.Goals as goal

pub returns-clause-apart : goal.returns-clause-apart
returns-clause-apart c = λ shut. apart c.args.n _ _ c.args.e (cc)

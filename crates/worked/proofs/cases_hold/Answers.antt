use Rattle.worked.proofs.Cases.{cases}
use Rattle.worked.proofs.cases_hold.Goals as goal

pub returns : goal.returns
returns c = record { hold = cases }

use Rattle.pla.proofs.Telling.{tells}
use Rattle.pla.proofs.printer.laws.Goals as goal

pub returns : goal.returns
returns c = tells

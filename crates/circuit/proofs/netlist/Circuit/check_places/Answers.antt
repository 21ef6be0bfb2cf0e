use Rattle.std.proofs.Common.{rules}
use Rattle.circuit.proofs.netlist.Circuit.check_places.Goals as goal

pub returns-then-places-needed-clause-value : goal.returns-then-places-needed-clause-value
returns-then-places-needed-clause-value c = search rules

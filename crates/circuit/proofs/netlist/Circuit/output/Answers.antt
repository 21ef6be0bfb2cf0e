use Rattle.std.proofs.Common.{rules}
use Rattle.circuit.proofs.netlist.Circuit.output.Goals as goal

pub returns : goal.returns
returns c = search rules

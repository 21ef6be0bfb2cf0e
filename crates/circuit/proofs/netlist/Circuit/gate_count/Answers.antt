use Rattle.std.proofs.Common.{rules}
use Rattle.circuit.proofs.netlist.Circuit.gate_count.Goals as goal

pub returns : goal.returns
returns c = search rules

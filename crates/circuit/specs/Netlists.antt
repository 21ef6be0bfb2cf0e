-- What a circuit in memory is, as a netlist. Assumes nothing.
use Rattle.circuit.specs.declared.netlist.Circuit.{Circuit}
use Rattle.circuit.specs.Circuits.{Netlist}

abbrev pub netlist : Circuit → Netlist
netlist c = record { inputs = c.inputs; output = c.output; gates = c.gates.now }

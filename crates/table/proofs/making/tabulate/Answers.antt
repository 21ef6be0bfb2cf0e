use Rattle.std.proofs.Common.{arith}
use Rattle.circuit.specs.Netlists.{netlist}
use Rattle.table.proofs.Made.{made_rows}
use Rattle.table.proofs.making.tabulate.Goals as goal

pub returns-clause-rows : goal.returns-clause-rows
returns-clause-rows c = made_rows (netlist c.args.circuit.now) c.args.bits.now _ (omega arith) c.fill.ensures

use Rattle.circuit.specs.Netlists.{netlist}
use Rattle.circuit.specs.Solutions.{solves}
use Rattle.table.proofs.Made.{word_made}
use Rattle.table.proofs.making.table_word.Goals as goal

pub returns : goal.returns
returns c =
    word_made _ c.args.w _ _ (solves (netlist c.args.circuit.now)) c.bits.type_inv c.requires.place (rw (c.unwrap-word.ensures, ← c.bits.ensures) at c.solve_word.ensures.lanes) (rw c.inputs.ensures at c.used_lanes.ensures)

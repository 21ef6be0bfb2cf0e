use Rattle.std.proofs.Common.{arith}
use Rattle.std.proofs.lemmas.List.{take_more_set}
use Rattle.std.proofs.lemmas.List.FromFn.{map-range_with_len_more}
use Rattle.circuit.specs.Netlists.{netlist}
use Rattle.circuit.specs.Solutions.{solves}
use Rattle.table.specs.Tables.{word_of}
use Rattle.table.proofs.making.fill.Goals as goal

pub loop-w-preserved : goal.loop-w-preserved
loop-w-preserved c =
    let w = c.loop-w.w in
    let laid = take_more_set c.loop-w.words w c.table_word.result (omega arith) in
    let more = map-range_with_len_more (word_of c.args.circuit.now.inputs (solves (netlist c.args.circuit.now))) 0 w w (omega arith) in cc

use Rattle.std.proofs.Common.{◌≡◌, ◌<◌, length, Ok, ap, ◌∙◌, arith}
use Rattle.circuit.specs.Kinds.{bit_at}
use Rattle.circuit.specs.Circuits.{highest}
use Rattle.circuit.specs.Netlists.{netlist}
use Rattle.circuit.specs.Solutions.{solves}
use Rattle.circuit.specs.Words.{same_is, same_true}
use Rattle.circuit.proofs.Room.{given, has_room}
use Rattle.circuit.proofs.solving.solution.Goals as goal

pub returns : goal.returns
returns c =
    let circuit = netlist c.args.circuit.now in
    let row = c.args.row in
    let room : highest circuit < length c.args.values.now = has_room circuit _ _ _ c.in_ok-output.ensures.value in
    let is : c.in_ok-output.output.on ≡ solves circuit row = same_is _ _ (c.in_ok-output.ensures.sound row 0 (omega arith) (λ k _. same_true (bit_at row k))) in
    record {
      value = ap Ok (c.on.ensures ∙ is) ∙ given circuit _ _ room;
      after = c.evaluate_on.ensures.after;
    }

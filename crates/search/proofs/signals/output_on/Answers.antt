use Rattle.std.proofs.Common.{arith, lit<}
use Rattle.circuit.specs.Netlists.{netlist}
use Rattle.circuit.specs.Solutions.{solves}
use Rattle.search.proofs.Allowed.{signal_allows, signal_settled, looked_known}
use Rattle.search.proofs.signals.output_on.Goals as goal

pub returns : goal.returns
returns c =
    let b = c.args.branch in
    let same = c.requires.same in
    let sound = rw c.unwrap.ensures at c.evaluate_on.ensures.sound in
    let settled = rw c.unwrap.ensures at c.evaluate_on.ensures.settled in
    looked_known b.inputs b.care b.value (solves (netlist c.args.circuit.now)) c.unwrap.result c.look.result c.look.ensures
    (λ row lt w. sound row 0 (lit< tt) (λ k l. signal_allows b.inputs b.care b.value k (omega arith) row w))
    (λ single. settled 0 (lit< tt) (λ k l. signal_settled b.inputs b.care b.value k (omega arith) (single k)))

use Rattle.std.proofs.Common.{◌≡◌, cond, ◌&&◌, ltb, sym, refl, ap, ◌∙◌}
use Rattle.circuit.specs.Circuits.{highest}
use Rattle.circuit.specs.Netlists.{netlist}
use Rattle.circuit.specs.Solutions.{solves}
use Rattle.search.specs.Branches.{SameRows}
use Rattle.search.specs.Searches.{roomy}
use Rattle.cubes.proofs.Questions.{same_answer}
use Rattle.search.proofs.Lows.{roomy_answer}
use Rattle.search.proofs.making.deciding.SearchDecider.ask.Goals as goal

pub returns : goal.returns
returns c =
    let s = c.args.self.now in
    let b = c.in_ok-branch.branch in
    let n : b.inputs ≡ s.circuit.inputs = c.in_ok-branch.ensures.0 ∙ c.inputs.ensures in
    let same : SameRows s.circuit.inputs b.care b.value c.args.question.cube.care c.args.question.cube.value = rw c.inputs.ensures at c.in_ok-branch.ensures.1 in
    record {
      answer = roomy_answer (roomy s) s.circuit.inputs (solves (netlist s.circuit)) c.args.question.cube.care c.args.question.cube.value c.args.question.wanted c.args.question.barred.now
          c.descend.result (sym c.if-not-is_roomy.ensures)
          (same_answer s.circuit.inputs c.args.question.wanted c.args.question.barred.now (solves (netlist s.circuit)) _ b.care b.value _ _ same (λ row l. refl)
          c.descend.result (rw n at c.descend.ensures));
      kept = record { inputs = ap (λ places. cond (ltb (highest (netlist s.circuit)) places) s.circuit.inputs 0) c.descend.auto.values; rows = ap (λ places row. ltb (highest (netlist s.circuit)) places && solves (netlist s.circuit) row) c.descend.auto.values };
      circuit_kept = refl;
    }

use Rattle.std.proofs.Common.{◌≡◌, ◌+◌, ◌/◌, ◌<◌, true, ◌++◌, length, take, drop, set, is_some, Ok, sym, ap, ◌∙◌, subst, ap₂, arith}
use Rattle.std.proofs.lemmas.List.{length-take, length-drop}
use Rattle.circuit.specs.Kinds.{Settled, only}
use Rattle.circuit.specs.Circuits.{highest, literal, grown}
use Rattle.circuit.specs.Netlists.{netlist}
use Rattle.circuit.specs.Solutions.{solves}
use Rattle.circuit.specs.Answers.{table_with, output_of}
use Rattle.circuit.proofs.Gates.{table_is, output_is}
use Rattle.circuit.proofs.Room.{given, written}
use Rattle.circuit.proofs.Consistent.{consistent}
use Rattle.circuit.proofs.Carried.{carried}
use Rattle.circuit.proofs.evaluator.evaluate.Goals as goal

pub returns : goal.returns
returns g c =
    let o = g.V.Value.ops in
    let laws = g.met.V.Value in
    let circuit = netlist c.args.circuit.now in
    let n = circuit.inputs in
    let gates = circuit.gates in
    let vs = c.args.values.now in
    let room : highest circuit < length vs = c.in_ok-check_places.ensures.room in
    let out : circuit.output / 2 < n + 1 + length gates / 2 = omega (arith, c.args.circuit.now.reached) in
    let start = set vs 0 c.falsity.result in
    let last : c.fill.new.values ≡ table_with o circuit (take n (drop 1 vs)) vs =
    table_is o circuit vs _ _ c.falsity.ensures room
    (c.fill.ensures ∙ ap₂ (λ gs m. grown o gs (take (m + 1) start) ++ drop (m + 1 + length gs / 2) start) c.gates.ensures c.inputs.ensures) in
    let is : c.operand.result ≡ output_of o circuit vs =
    c.operand.ensures ∙ ap₂ (literal o) last c.output.ensures ∙ output_is o circuit vs room out in
    record {
      value = ap Ok is ∙ given circuit _ _ room;
      after = last ∙ written o circuit (take n (drop 1 vs)) vs room;
      consistent = consistent o circuit (take n (drop 1 vs)) (drop (n + 1 + length gates / 2) vs) c.fill.new.values c.operand.result
          (simp (length-take, length-drop) (omega arith)) c.args.circuit.now.below last (c.operand.ensures ∙ ap (literal o c.fill.new.values) c.output.ensures);
      sound = λ row lane h a.
          subst (λ v. g.V.Value.may v lane (solves circuit row) ≡ true) (sym is)
          (carried o (λ v b. g.V.Value.may v lane b ≡ true) (laws.nothing lane h).0 (λ u w p q. laws.joins u w lane p q h) (λ u p. laws.flips u lane p h)
          circuit vs row (omega arith) a);
      settled = λ lane h a.
          subst (λ v. Settled (g.V.Value.may v lane)) (sym is)
          (carried o (λ v _. Settled (g.V.Value.may v lane)) (ap₂ (λ p q. is_some (only p q)) (laws.nothing lane h).0 (laws.nothing lane h).1)
          (λ u w p q. laws.stays u w lane h) (λ u p. laws.turns u lane h) circuit vs 0 (omega arith) a);
    }

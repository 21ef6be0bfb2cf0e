use Rattle.std.proofs.Common.{◌≡◌, ◌≤◌, length, true≢false, is_ok, Ok, sym, ap, ◌∙◌, rules}
use Rattle.circuit.specs.Netlists.{netlist}
use Rattle.listing.specs.Limits.{max_inputs}
use Rattle.search.specs.Searches.{made_of}
use Rattle.inspection.proofs.Smallest.{smallest_by_lem}
use Rattle.inspection.proofs.looking.smallest_by_search.Goals as goal

pub returns : goal.returns
returns c =
    let circuit = netlist c.args.circuit in
    let few : circuit.inputs ≤ max_inputs = c.args.circuit.ranged.1 in
    let e = c.make-search.ensures in
    let roomy : made_of circuit (length c.args.signals.now) ≡ Ok tt = search rules in
    record {
      value = smallest_by_lem c.make-search.result.outcome _ circuit _ _ _ few e.outcome (e.outcome ∙ roomy) e.inputs e.rows c.smallest.ensures;
      signals = λ no. absurd (true≢false (sym (ap is_ok roomy) ∙ no));
    }

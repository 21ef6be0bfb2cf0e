use Rattle.std.proofs.Common.{◌≡◌, refl, ◌≤◌, length, true≢false, is_ok, Ok, ap, ap₂, ◌∙◌, rules}
use Rattle.circuit.specs.Netlists.{netlist}
use Rattle.listing.specs.Limits.{max_inputs}
use Rattle.table.specs.Tables.{table_answer, rows_of}
use Rattle.inspection.proofs.Smallest.{smallest_by_lem}
use Rattle.inspection.proofs.looking.smallest_in_table.Goals as goal

pub returns : goal.returns
returns c =
    let circuit = netlist c.args.circuit.now in
    let few : circuit.inputs ≤ max_inputs = c.args.circuit.now.ranged.1 in
    let went : Ok tt ≡ table_answer circuit (length c.args.bits.now) (length c.args.words.now) = search rules in
    let same : c.over.result.inputs ≡ circuit.inputs = search rules in
    let rows = ap₂ rows_of same c.over.ensures.bits ∙ c.in_ok-tabulate.ensures.rows in
    record {
      value = smallest_by_lem (Ok tt) _ circuit _ _ _ few went refl same rows c.smallest.ensures;
      bits = search rules;
      words = λ no. absurd (true≢false (ap is_ok went ∙ no));
    }

use Rattle.std.proofs.Common.{◌≡◌, refl, length, true≢false, is_ok, Ok, ap, ap₂, ◌∙◌, rules}
use Rattle.circuit.specs.Netlists.{netlist}
use Rattle.table.specs.Tables.{table_answer, rows_of}
use Rattle.jobs.proofs.Stages.{decided_text_lem, decided_register_lem}
use Rattle.jobs.proofs.from_file.by_table.Goals as goal

pub returns : goal.returns
returns c =
    let circuit = netlist c.args.circuit.now in
    let went : Ok tt ≡ table_answer circuit (length c.args.bits.now) (length c.args.words.now) = search rules in
    let same : c.over.result.inputs ≡ circuit.inputs = search rules in
    let rows = ap₂ rows_of same c.over.ensures.bits ∙ c.in_ok-tabulate.ensures.rows in
    record {
      value = decided_text_lem c.args.mode circuit c.args.register.now (Ok tt) _ _ _ went refl same rows c.args.text.now _ c.print_list.ensures.value;
      register = decided_register_lem c.args.mode circuit c.args.register.now (Ok tt) _ _ _ went refl same rows _ c.print_list.ensures.register;
      bits = search rules;
      words = λ no. absurd (true≢false (ap is_ok went ∙ no));
    }

pub returns-in_err-tabulate-clause-bits : goal.returns-in_err-tabulate-clause-bits
returns-in_err-tabulate-clause-bits c = search rules

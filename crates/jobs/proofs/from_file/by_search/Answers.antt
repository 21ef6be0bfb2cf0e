use Rattle.std.proofs.Common.{◌≡◌, length, true≢false, is_ok, Ok, sym, ap, ◌∙◌, rules}
use Rattle.circuit.specs.Netlists.{netlist}
use Rattle.search.specs.Searches.{made_of}
use Rattle.jobs.proofs.Stages.{decided_text_lem, decided_register_lem}
use Rattle.jobs.proofs.from_file.by_search.Goals as goal

pub returns : goal.returns
returns c =
    let e = c.make-search.ensures in
    let roomy : made_of (netlist c.args.circuit) (length c.args.signals.now) ≡ Ok tt = search rules in
    let went : c.make-search.result.outcome ≡ Ok tt = e.outcome ∙ roomy in
    record {
      value = decided_text_lem c.args.mode (netlist c.args.circuit) c.args.register.now _ _ _ _ e.outcome went e.inputs e.rows c.args.text.now _ c.print_list.ensures.value;
      register = decided_register_lem c.args.mode (netlist c.args.circuit) c.args.register.now _ _ _ _ e.outcome went e.inputs e.rows _ c.print_list.ensures.register;
      signals = λ no. absurd (true≢false (sym (ap is_ok roomy) ∙ no));
    }

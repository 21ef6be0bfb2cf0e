use Rattle.std.proofs.Common.{◌≡◌, ℕ, List, length, take, drop, Ok, vec_items, sym, ap, ◌∙◌, subst₂, arith, rules}
use Rattle.std.proofs.lemmas.List.{take_at, length-replicate}
use Rattle.std.proofs.lemmas.Result.{IfErr-at_err}
use Rattle.faults.specs.declared.job.JobFault.{JobFault}
use Rattle.cubes.specs.declared.entry.Entry.{Entry}
use Rattle.cubes.specs.Cubes.{blank}
use Rattle.jobs.specs.Lists.{Outcome, Room, room_of, list_of}
use Rattle.jobs.specs.Sizes.{enough, entry_count, blank_register, text_bytes}
use Rattle.jobs.specs.Suffices.{Due}
use Rattle.jobs.specs.Told.{Told}
use Rattle.shell.specs.Outcomes.{blank_text, answer_in}
use Rattle.shell.proofs.job.work.Goals as goal

-- a job whose memory is as it is allocated
allocated : (file : List ℕ) (mode : ℕ) (r : Room) (register : List Entry) (text : List ℕ) (o : Outcome)
    → r ≡ enough → register ≡ blank_register → text ≡ blank_text → o ≡ list_of file mode r register text → o ≡ list_of file mode enough blank_register blank_text
allocated file mode r register text o roomy entries bytes e = rw (e, roomy, entries, bytes)

pub returns-in-Ok : goal.returns-in-Ok
returns-in-Ok c =
    let roomy : room_of c.lend.result ≡ enough = c.lend.ensures.room ∙ c.in_ok-memory.ensures.room in
    let register = c.as_mut_slice.ensures.value ∙ c.in_ok-register.ensures.items_if_clones_equal (λ y same. same) in
    let bytes = c.as_mut_slice-2.ensures.value ∙ c.in_ok-text.ensures.items_if_clones_equal (λ y same. same) in
    let long : length c.list.new.text ≡ c.in_ok-text.text.len = search rules in
    let text : vec_items c.truncate.new.self ≡ take c.in-Ok.size c.list.new.text =
    c.truncate.ensures.items ∙ ap (take c.in-Ok.size) (take_at c.list.new.text (drop (length c.list.new.text) c.in_ok-text.text.items) c.in_ok-text.text.len long) in
    record {
      said = subst₂ (λ (r : Room) (bs : List ℕ). Told c.args.file.now r.gate_table c.args.mode bs) roomy (sym text) c.in-Ok.ensures.told;
      value =
          ap (λ (bs : List ℕ). Ok bs) text
          ∙ ap answer_in (allocated c.args.file.now c.args.mode _ _ _ (Ok c.in-Ok.size, c.list.new.text) roomy register bytes c.in-Ok.ensures.value);
    }

pub returns : goal.returns
returns c =
    let register = c.as_mut_slice.ensures.value ∙ c.in_ok-register.ensures.items_if_clones_equal (λ y same. same) in
    let bytes = c.as_mut_slice-2.ensures.value ∙ c.in_ok-text.ensures.items_if_clones_equal (λ y same. same) in
    let job = allocated c.args.file.now c.args.mode _ _ _ _ (c.lend.ensures.room ∙ c.in_ok-memory.ensures.room) register bytes c.in-Err.ensures.value in
    record {
      said = IfErr-at_err (λ (refusal : JobFault). Due refusal.fault) (sym (ap (λ (o : Outcome). o.0) job))
          (c.in-Err.ensures.suffices.works c.args.file.now c.args.mode blank_register blank_text (length-replicate entry_count blank) (omega (arith, length-replicate {A = ℕ} text_bytes 0)));
      value = ap answer_in job;
    }

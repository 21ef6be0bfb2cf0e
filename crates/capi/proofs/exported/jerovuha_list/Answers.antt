use Rattle.std.proofs.Common.{◌≡◌, ℕ, IfErr, Result, sym, ap, ◌∙◌, subst, rules}
use Rattle.std.proofs.lemmas.List.{length-replicate}
use Rattle.faults.specs.declared.job.JobFault.{JobFault}
use Rattle.cubes.specs.Cubes.{blank}
use Rattle.jobs.specs.Lists.{Outcome, list_of}
use Rattle.jobs.specs.Sizes.{enough, entry_count, blank_register}
use Rattle.jobs.specs.Suffices.{Due}
use Rattle.jobs.specs.Told.{Refusals}
use Rattle.capi.specs.Answers.{DueNumber, Truthful, answer_of, answered}
use Rattle.capi.specs.declared.answer.Answer.{Answer}
use Rattle.capi.proofs.Due.{answer_due}
use Rattle.capi.proofs.Truth.{truthful}
use Rattle.capi.proofs.exported.jerovuha_list.Goals as goal

-- the answer is that of the job
told : (c : goal.Joined-list) → answer_of c.list.result ≡ c.match-list.answer
told c = search rules

pub returns-clause-value : goal.returns-clause-value
returns-clause-value c =
    ap (λ (a : Answer). (a.number, a, c.list.new.text)) (sym (told c)) ∙ ap answered c.list.ensures.value

pub returns-clause-due : goal.returns-clause-due
returns-clause-due c = λ long.
    let text = c.args.text.now in
    let job : c.list.result ≡ (list_of c.args.file.now c.args.mode enough blank_register text).0 = ap (λ (o : Outcome). o.0) c.list.ensures.value in
    let due = c.list.ensures.suffices.works c.args.file.now c.args.mode blank_register text (length-replicate entry_count blank) long in
    subst (λ a. DueNumber a.number) (told c)
    (answer_due c.list.result (subst (λ (r : Result ℕ JobFault). IfErr r (λ refusal. Due refusal.fault)) (sym job) due))

pub returns-clause-refused : goal.returns-clause-refused
returns-clause-refused c =
    let refusals : Refusals c.args.file.now enough.gate_table c.list.result = search rules in
    subst (Truthful c.args.file.now) (told c) (truthful c.args.file.now c.list.result refusals)

pub returns-clause-told : goal.returns-clause-told
returns-clause-told c = search rules

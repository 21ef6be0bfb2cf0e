use Rattle.std.proofs.Common.{◌≡◌, false, length, refl, sym, ◌∙◌, arith}
use Rattle.text.proofs.Runs.{past_end, left_more, left_none, split_ok}
use Rattle.std.proofs.lemmas.Bool.{cond-true}
use Rattle.text.specs.Runs.{going}
use Rattle.text.proofs.machine.run.Goals as goal
use Rattle.text.proofs.machine.run.Goals.{then-loop-machine-test+else-place-file, else-loop-machine-test}

pub loop-machine-init : goal.loop-machine-init
loop-machine-init g c = (length c.args.file.now, omega arith, refl)

pub loop-machine-preserved : goal.loop-machine-preserved
loop-machine-preserved g c =
    let m = g.M.Machine in
    let e = split_ok c.loop-machine.machine c.step.new.self _ (m.after c.args.file.now c.loop-machine.machine) c.in_ok-step.ensures.value in
    left_more m.over m.at m.after m.answer c.args.file.now c.loop-machine.machine c.step.new.self _ c.loop-machine.invariant (sym c.is_over.ensures ∙ c.loop-machine-test.true) (omega arith) e c.in_ok-step.ensures.forward

pub returns : goal.returns
returns g c =
    let m = g.M.Machine in
    let stop : going m.over m.at c.args.file.now c.loop-machine.machine ≡ false =
    elim c.loop-machine-test.branch [
      | then-loop-machine-test+else-place-file w ↦ past_end m.over m.at c.args.file.now c.loop-machine.machine (omega arith)
      | else-loop-machine-test w ↦ cond-true _ _ _ (sym c.is_over.ensures ∙ w.loop-machine-test.false)
    ] in
    c.finish.ensures ∙ left_none m.over m.at m.after m.answer c.args.file.now c.loop-machine.machine _ c.loop-machine.invariant stop

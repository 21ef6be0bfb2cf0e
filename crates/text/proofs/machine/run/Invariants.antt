use Rattle.std.proofs.Common.{◌-◌, length}
use Rattle.text.specs.Runs.{run_of}
use Rattle.text.proofs.Runs.{Left}
use Rattle.text.proofs.machine.run.Given as goal

abbrev pub invariant-loop-machine : goal.invariant-loop-machine
invariant-loop-machine g l =
    let m = g.M.Machine in Left m.over m.at m.after m.answer l.file l.machine (run_of m.over m.at m.after m.answer l.file l.initial.machine)

abbrev pub decreases-loop-machine : goal.decreases-loop-machine
decreases-loop-machine g l = length l.file - g.M.Machine.at l.machine

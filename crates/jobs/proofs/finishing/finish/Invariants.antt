use Rattle.std.proofs.Common.{◌-◌}
use Rattle.cubes.specs.Deciders.{Kept}
use Rattle.listing.specs.Limits.{max_entries}
use Rattle.jobs.proofs.Runs.{Rest}
use Rattle.jobs.proofs.finishing.finish.Given as goal

-- the decider is as it was, and what is left to run is a run of its own
abbrev pub invariant-loop-longer : goal.invariant-loop-longer
invariant-loop-longer g l =
    Kept g.D.Decider.arity g.D.Decider.rows l.initial.decider l.decider
    × Rest (g.D.Decider.arity l.initial.decider) (g.D.Decider.rows l.initial.decider) l.initial.listing l.initial.register l.listing l.register

-- each cube uses an entry
abbrev pub decreases-loop-longer : goal.decreases-loop-longer
decreases-loop-longer g l = max_entries - l.listing.cubes

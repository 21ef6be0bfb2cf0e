use Rattle.std.proofs.Common.{ℕ, ◌/◌, ◌^◌, ◌≤◌}
use Rattle.cubes.specs.Deciders.{Kept}
use Rattle.listing.proofs.Asked.{Free}
use Rattle.listing.proofs.leading.find_lead.Given as goal

-- a free row whose bits from place k up are no larger than those of any other
abbrev pub invariant-loop-k : goal.invariant-loop-k
invariant-loop-k g l =
    Kept g.D.Decider.arity g.D.Decider.rows l.initial.decider l.decider
    × Free (g.D.Decider.arity l.initial.decider) (g.D.Decider.rows l.initial.decider) l.barred l.best
    × ((row : ℕ) → Free (g.D.Decider.arity l.initial.decider) (g.D.Decider.rows l.initial.decider) l.barred row → l.best / 2 ^ l.k ≤ row / 2 ^ l.k)

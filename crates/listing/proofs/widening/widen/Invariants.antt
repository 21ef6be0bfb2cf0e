use Rattle.std.proofs.Common.{◌≡◌, ℕ, ◌^◌, ◌<◌}
use Rattle.cubes.specs.Cubes.{held}
use Rattle.cubes.specs.Deciders.{Kept}
use Rattle.listing.specs.Widest.{without, rest, widened, good_around, widest}
use Rattle.listing.proofs.widening.widen.Given as goal

-- the inputs so far are decided, those left are fixed, and going on from here gives the widest care
abbrev pub invariant-loop-k : goal.invariant-loop-k
invariant-loop-k g l =
    Kept g.D.Decider.arity g.D.Decider.rows l.initial.decider l.decider
    × (l.care < 2 ^ 30)
    × ((decided : ℕ) × (l.care ≡ rest l.k decided)
    × (widened (good_around l.arity.inputs (without (g.D.Decider.rows l.initial.decider) (held l.shut)) l.row) l.k decided
    ≡ widest l.arity.inputs (without (g.D.Decider.rows l.initial.decider) (held l.shut)) l.row))

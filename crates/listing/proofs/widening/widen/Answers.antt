use Rattle.std.proofs.Common.{ℕ, ◌+◌, ◌-◌, ◌*◌, ◌^◌, ◌≤◌, Bool, true, false, refl, ap, ◌∙◌, mod-eq_of_lt, arith, pow_pos, pow_mono}
use Rattle.cubes.specs.Cubes.{held}
use Rattle.cubes.proofs.Bits.{one_shift}
use Rattle.cubes.proofs.Questions.{kept_still, kept_on}
use Rattle.listing.specs.Widest.{without, good_around, widest}
use Rattle.listing.proofs.Turns.{turn_told, turns_done}
use Rattle.listing.proofs.widening.widen.Goals as goal

pub loop-k-init : goal.loop-k-init
loop-k-init g c =
    let m : 2 ^ c.args.arity.inputs ≤ 2 ^ 30 = pow_mono c.args.arity.limits.1 in
    let s = one_shift c.args.arity.inputs (omega arith) in
    (kept_still _ _ _, omega (arith, pow_pos c.args.arity.inputs), (0, omega arith, refl {a = widest c.args.arity.inputs (without (g.D.Decider.rows c.args.decider.now) (held c.args.shut.now)) c.args.row}))

pub loop-k-preserved-then-is_good : goal.loop-k-preserved-then-is_good
loop-k-preserved-then-is_good g c =
    let i = c.loop-k.invariant in
    let less = ap (λ (x : ℕ). c.loop-k.care - x) (one_shift (c.loop-k.k - 1) (omega arith)) in
    let b = i.1 in
    let t = turn_told c.args.arity.inputs (g.D.Decider.rows c.args.decider.now) _ c.args.shut.now c.args.row i.0.rows
    c.loop-k.k i.2.0 c.loop-k.care _ _ _ c.loop-k-test.true i.2.1 b less c.low.ensures.care c.low.ensures.value true c.if-is_good.ensures.good in
    (kept_on _ _ _ _ _ i.0 c.is_good.ensures.kept, omega arith, (2 * i.2.0 + 0, t.0, t.1 ∙ i.2.2))

pub loop-k-preserved : goal.loop-k-preserved
loop-k-preserved g c =
    let i = c.loop-k.invariant in
    let less = ap (λ (x : ℕ). c.loop-k.care - x) (one_shift (c.loop-k.k - 1) (omega arith)) in
    let t = turn_told c.args.arity.inputs (g.D.Decider.rows c.args.decider.now) _ c.args.shut.now c.args.row i.0.rows
    c.loop-k.k i.2.0 c.loop-k.care _ _ _ c.loop-k-test.true i.2.1 i.1 less c.low.ensures.care c.low.ensures.value false c.if-is_good.ensures.good in
    (kept_on _ _ _ _ _ i.0 c.is_good.ensures.kept, i.1, (2 * i.2.0 + 1, t.0, t.1 ∙ i.2.2))

pub returns-clause-care : goal.returns-clause-care
returns-clause-care g c =
    let i = c.loop-k.invariant in
    let fits : ℕ → Bool = good_around c.args.arity.inputs (without (g.D.Decider.rows c.args.decider.now) (held c.args.shut.now)) c.args.row in
    c.low-2.ensures.care ∙ mod-eq_of_lt i.1 ∙ turns_done fits c.loop-k.k i.2.0 c.loop-k.care _ (omega arith) i.2.1 i.2.2

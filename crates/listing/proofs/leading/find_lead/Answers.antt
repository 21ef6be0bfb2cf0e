use Rattle.std.proofs.Common.{◌≡◌, ◌-◌, ◌/◌, ◌^◌, sym, ◌∙◌, arith}
use native.Mathlib.Nat.{div-eq_of_lt}
use Rattle.cubes.proofs.Questions.{kept_on}
use Rattle.listing.proofs.Asked.{lead_none, lead_some, probe_none, probe_some, halved}
use Rattle.listing.proofs.leading.find_lead.Goals as goal

pub returns-in_err-best-clause-lead : goal.returns-in_err-best-clause-lead
returns-in_err-best-clause-lead g c =
    let none = rw c.inputs-n.ensures at c.in_err-best.ensures.answer in
    c.from_residual.ensures ∙ sym (lead_none _ _ _ (λ row f. probe_none _ _ _ _ _ (omega arith) none row f (div-eq_of_lt f.below)))

pub loop-k-preserved-in-Some : goal.loop-k-preserved-in-Some
loop-k-preserved-in-Some g c =
    let i = c.loop-k.invariant in
    let p = probe_some _ _ _ (c.loop-k.k - 1) (c.loop-k.best / 2 ^ (c.loop-k.k - 1) - 1) (rw (i.0.inputs ∙ c.probe.ensures.kept.inputs, ← c.inputs-n.ensures) (omega arith)) _ c.in-Some.ensures.answer in (
      kept_on _ _ _ _ _ i.0 c.probe-then-high-eq1.ensures.kept,
      rw (← i.0.inputs, ← i.0.rows) p.0,
      λ row f. omega (arith, p.1, halved c.loop-k.best row c.loop-k.k c.loop-k-test.true (i.2 row f)),
    )

pub loop-k-preserved-in_default : goal.loop-k-preserved-in_default
loop-k-preserved-in_default g c =
    let i = c.loop-k.invariant in (
      kept_on _ _ _ _ _ i.0 c.probe-then-high-eq1.ensures.kept,
      i.1,
      λ row f.
          let e = probe_none _ _ _ _ _ (rw (i.0.inputs ∙ c.probe.ensures.kept.inputs, ← c.inputs-n.ensures) (omega arith)) c.in_default.ensures.answer row (rw (i.0.inputs, i.0.rows) f) in
          omega (arith, halved c.loop-k.best row c.loop-k.k c.loop-k-test.true (i.2 row f)),
    )

pub loop-k-preserved : goal.loop-k-preserved
loop-k-preserved g c =
    let i = c.loop-k.invariant in
    (i.0, i.1, λ row f. omega (arith, halved c.loop-k.best row c.loop-k.k c.loop-k-test.true (i.2 row f)))

pub returns-clause-lead : goal.returns-clause-lead
returns-clause-lead g c =
    let i = c.loop-k.invariant in
    let kept = c.probe.ensures.kept in
    let k : c.loop-k.k ≡ 0 = omega arith in
    sym (lead_some _ _ _ c.loop-k.best (rw (kept.inputs, kept.rows) at i.1) (λ row f. let h = i.2 row (rw (kept.inputs, kept.rows) f) in grind arith))

use Rattle.std.proofs.Common.{sym, ◌∙◌}
use native.Mathlib.Nat.{sub-zero}
use Rattle.listing.proofs.Nexted.{next_ends, next_full, next_lists}
use Rattle.listing.proofs.states.Running.next.Goals as goal
use Rattle.listing.proofs.states.Running.next.Goals.{in-Separate, in-Shared}

pub returns-in_default-clause-next : goal.returns-in_default-clause-next
returns-in_default-clause-next g c =
    let same = sym c.inputs.ensures ∙ c.if-inputs-arity.false in
    next_ends c.args.self _ c.args.register.now _ c.held-held.result _ c.held-held.ensures c.if-register-held.false same (sub-zero c.held-held.result)
    (rw same at c.in_default.ensures.lead)

pub returns-then-not-has_room-clause-next : goal.returns-then-not-has_room-clause-next
returns-then-not-has_room-clause-next g c =
    let same = sym c.inputs.ensures ∙ c.if-inputs-arity.false in
    next_full c.args.self _ c.args.register.now _ c.held-held.result _ c.held-held.ensures c.if-register-held.false same (sub-zero c.held-held.result)
    c.in-Some.row (rw same at c.in-Some.ensures.lead) c.refused-then-not-has_room.result (sym c.if-not-has_room.ensures) c.refused-then-not-has_room.ensures

pub returns-clause-next : goal.returns-clause-next
returns-clause-next g c =
    let same = sym c.inputs.ensures ∙ c.if-inputs-arity.false in
    next_lists c.args.self _ c.args.register.now _ c.held-held.result _ c.held-held.ensures c.if-register-held.false
    same (sub-zero c.held-held.result) c.in-Some.row (rw same at c.in-Some.ensures.lead) _ _ _ _ c.longer.result c.listed.result
    (sym c.if-not-has_room.ensures) c.find_lead.ensures.kept.rows
    (sub-zero c.match-self.shut ∙ elim c.match-self.branch [ in-Separate w ↦ rw w.in-Separate.is (w.shut-is ∙ c.held-held.ensures) | in-Shared w ↦ rw w.in-Shared.is w.shut-is ])
    c.widen-cube.ensures.care c.widen-cube.ensures.value c.longer.ensures c.listed.ensures

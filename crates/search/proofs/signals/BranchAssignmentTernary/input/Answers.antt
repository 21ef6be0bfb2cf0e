use Rattle.std.proofs.Common.{◌≡◌, ◌/◌, ◌^◌, ◌≤◌, ◌∙◌, arith, pow_mono}
use native.Mathlib.Nat.{div-eq_of_lt}
use Rattle.std.proofs.lemmas.Bool.Decides.{nat_tests}
use Rattle.search.proofs.Allowed.{told_shut}
use Rattle.search.proofs.Halves.{value_below}
use Rattle.search.proofs.signals.BranchAssignmentTernary.input.Goals as goal

pub returns-then-place-lt-BITS : goal.returns-then-place-lt-BITS
returns-then-place-lt-BITS c =
    let b = c.args.self in
    rw (c.care.ensures, c.value.ensures, c.all_fixed.ensures, c.inputs.ensures) at c.told.ensures
    ∙ told_shut b.inputs b.care b.value c.args.place (omega (arith, b.few)) c.if-place-lt-BITS.true

pub returns-else-place-lt-BITS : goal.returns-else-place-lt-BITS
returns-else-place-lt-BITS c =
    let b = c.args.self in
    let far : 2 ^ b.inputs ≤ 2 ^ c.args.place = pow_mono (omega (arith, b.few, c.if-place-lt-BITS.false)) in
    let none : b.value / 2 ^ c.args.place ≡ 0 = div-eq_of_lt (omega (arith, far, value_below b.value b.care b.inputs b.below b.inside)) in
    grind (arith, nat_tests, b.few, c.if-place-lt-BITS.false)

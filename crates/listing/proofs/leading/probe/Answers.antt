use Rattle.std.proofs.Common.{◌≡◌, ℕ, ◌-◌, ◌*◌, ◌^◌, ◌≤◌, arith, pow_pos, pow_mono}
use Rattle.cubes.proofs.Bits.{one_shift}
use Rattle.listing.proofs.leading.probe.Goals as goal

pub overflow_sub-care : goal.overflow_sub-care
overflow_sub-care g c = rw c.inputs.ensures (omega (arith, one_shift, pow_mono c.requires.place))

pub returns-clause-answer : goal.returns-clause-answer
returns-clause-answer g c =
    let inputs : ℕ = g.D.Decider.arity c.args.decider.now in
    let m : 2 ^ inputs ≤ 2 ^ 30 = pow_mono c.requires.limit in
    let p = pow_pos c.args.k in
    let a = one_shift inputs (omega arith) in
    let b = one_shift c.args.k (omega arith) in
    let low = rw c.inputs.ensures at c.low.ensures.care in
    let care : c.low.result.care ≡ 2 ^ inputs - 2 ^ c.args.k = omega arith in
    let value : c.low.result.value ≡ c.args.high * 2 ^ c.args.k = omega arith in
    rw (care, value) at c.ask.ensures.answer

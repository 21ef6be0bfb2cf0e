use Rattle.std.proofs.Common.{◌≤◌, ◌%◌, ◌^◌, eqb, ap, sym, ◌∙◌, arith, pow_mono, rules}
use native.Mathlib.Nat.{div-eq_of_lt}
use Rattle.std.proofs.lemmas.Bool.{le-ltb}
use Rattle.circuit.proofs.row.bit_at.Goals as goal

pub returns-else-place-lt-BITS : goal.returns-else-place-lt-BITS
returns-else-place-lt-BITS c =
    let k = c.args.place in
    let m : 2 ^ 32 ≤ 2 ^ k = pow_mono c.if-place-lt-BITS.false in
    le-ltb k 32 c.if-place-lt-BITS.false ∙ sym (ap (λ x. eqb (x % 2) 1) (div-eq_of_lt {n = c.args.number} (omega arith)))

pub returns-then-place-lt-BITS : goal.returns-then-place-lt-BITS
returns-then-place-lt-BITS c = search rules

use Rattle.std.proofs.Common.{◌≡◌, ◌%◌, ◌^◌, eqb, sym, ap, ◌∙◌, ap₂, arith}
use native.Mathlib.Nat.{mod-one}
use lib.Bits.{bit_and}
use Rattle.circuit.specs.Words.{and_bit}
use Rattle.circuit.proofs.Lanes.{ones_lane}
use Rattle.table.proofs.Masks.{more_places}
use Rattle.table.proofs.lanes.low_places.Goals as goal

pub loop-k-init : goal.loop-k-init
loop-k-init c = λ b l. ones_lane b l ∙ sym (ap₂ eqb (mod-one (bit_and b c.args.cube.care)) (mod-one c.args.cube.value))

pub loop-k-preserved : goal.loop-k-preserved
loop-k-preserved c = λ b l.
    rw (and_bit c.loop-k.left c.side-left.result b, more_places (bit_and b c.args.cube.care) c.args.cube.value c.loop-k.k, c.loop-k.invariant b l, c.side-left.ensures b l)

pub returns : goal.returns
returns c =
    let e : c.loop-k.k ≡ 5 = omega arith in
    λ b l. c.loop-k.invariant b l ∙ ap (λ j. eqb (bit_and b c.args.cube.care % 2 ^ j) (c.args.cube.value % 2 ^ j)) e

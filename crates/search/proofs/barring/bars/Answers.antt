use Rattle.std.proofs.Common.{get_or, refl, arith}
use Rattle.cubes.specs.Cubes.{Touch, blank}
use Rattle.cubes.proofs.Entries.{held_at}
use Rattle.search.proofs.Touching.{fixed_holds, single_fixed, one_apart, untouched}
use Rattle.search.proofs.barring.bars.Goals as goal
use Rattle.search.proofs.barring.bars.Goals.{then-meets+else-fixes_all, else-meets}

pub returns-then-fixes_all : goal.returns-then-fixes_all
returns-then-fixes_all c =
    let b = c.args.branch in
    let es = c.args.barred.now in
    let at = c.loop-entry.entry-index in
    let touch : Touch b.inputs b.care b.value (get_or es at blank) =
    simp (c.inputs-inputs.ensures, c.cube-cube.ensures.care, c.cube-cube.ensures.value) at c.if-meets.ensures.shared refl in
    λ row lt w. held_at es at row c.loop-entry-test.true (fixed_holds b.inputs b.care b.value (get_or es at blank) b.few c.if-fixes_all.ensures touch row lt w)

pub loop-entry-preserved : goal.loop-entry-preserved
loop-entry-preserved c =
    let b = c.args.branch in
    let es = c.args.barred.now in
    let at = c.loop-entry.entry-index in
    elim c.if-meets.branch [
      | then-meets+else-fixes_all w ↦ rw w.barring-is (single_fixed b.inputs b.care b.value (get_or es at blank) b.below w.if-fixes_all.ensures)
      | else-meets w ↦ rw w.barring-is
          (one_apart b.inputs b.care b.value es at c.loop-entry.barring c.loop-entry.invariant
          (simp (c.inputs-inputs.ensures, c.cube-cube.ensures.care, c.cube-cube.ensures.value) at w.if-meets.ensures.apart refl))
    ]

pub returns : goal.returns
returns c =
    let b = c.args.branch in
    untouched b.inputs b.care b.value c.args.barred.now c.loop-entry.entry-index c.loop-entry.barring (omega arith) c.loop-entry.invariant

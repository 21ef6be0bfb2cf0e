use Rattle.std.proofs.Common.{refl}
use Rattle.search.proofs.Lows.{cut_rows, cut_none}
use Rattle.search.proofs.branch.Branch.of_cube.Goals as goal

pub returns-then-value-care : goal.returns-then-value-care
returns-then-value-care c =
    cut_none c.args.inputs c.args.cube.care c.args.cube.value (rw (c.value-value.ensures, c.care.ensures, c.all_fixed.ensures) at c.if-value-care.true)

pub returns : goal.returns
returns c =
    (refl, rw (c.value-value.ensures, c.care.ensures, c.all_fixed.ensures) (cut_rows c.args.inputs c.args.cube.care c.args.cube.value))

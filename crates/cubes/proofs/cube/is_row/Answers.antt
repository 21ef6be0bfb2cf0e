use Rattle.std.proofs.Common.{◌^◌, ◌≤◌, sym, ◌∙◌, arith, pow_mono, le-leb, lt-ltb}
use Rattle.cubes.proofs.cube.is_row.Goals as goal

pub returns-then-n-ge32 : goal.returns-then-n-ge32
returns-then-n-ge32 c =
    let m : 2 ^ 32 ≤ 2 ^ c.args.n = pow_mono c.if-n-ge32.true in le-leb _ _ c.if-n-ge32.true ∙ sym (lt-ltb _ _ (omega arith))

use Rattle.std.proofs.Common.{◌≡◌, ◌+◌, ◌-◌, [], ◌∷◌, arith, rules}
use Rattle.pla.specs.Text.{character_of, position_at, cube_line, ended}
use Rattle.pla.proofs.Parts.{line_more}
use Rattle.pla.proofs.Writing.{left_more}
use Rattle.pla.proofs.line.write_cube.Goals as goal

pub loop-input-preserved : goal.loop-input-preserved
loop-input-preserved c =
    let n = c.args.n in
    let care = c.args.cube.care in
    let value = c.args.cube.value in
    let input = c.loop-input.input in
    let here : c.character.result ≡ character_of (position_at care value (n - input)) = cc in
    left_more (c.character.result ∷ []) (ended (cube_line (n + 1 - (input + 1)) care value)) c.loop-input.invariant (line_more n care value input _ (omega arith) (omega arith) here) c.push.ensures

pub returns : goal.returns
returns c = search rules

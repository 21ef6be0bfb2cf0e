use Rattle.std.proofs.Common.{◌+◌, ◌<◌, ◌≤◌, List, ℕ, length, Ok, Err, sym, ap, ◌∙◌, ap₂, subst, arith, rules}
use Rattle.std.proofs.lemmas.Bool.{cond-true, cond-false, lt-ltb, le-ltb}
use Rattle.faults.specs.declared.table.TableFault.TheVariants.{TextShort}
use Rattle.pla.specs.Text.{cube_line, ended, text_of}
use Rattle.pla.specs.Writing.{Wrote}
use Rattle.pla.proofs.Parts.{lines_from, text_size, lines_all, lines_more, text_parts}
use Rattle.pla.proofs.Writing.{left_fits, left_more, wrote_more, written_all}
use Rattle.pla.proofs.write.write_list.Goals as goal

pub returns-then-text-needed : goal.returns-then-text-needed
returns-then-text-needed c =
    let n = c.args.n in
    let cubes = c.args.cubes.now in
    let size = text_size n cubes _ c.write_head-head.ensures in
    let short : length c.args.text.now < length (text_of n cubes) = omega arith in
    ap (λ k. (Err (TextShort k), c.args.text.now)) size ∙ sym (cond-true _ _ _ (lt-ltb _ _ short))

pub write_cube-requires-clause-room : goal.write_cube-requires-clause-room
write_cube-requires-clause-room c =
    let n = c.args.n in
    let cubes = c.args.cubes.now in
    let i = c.loop-entry.entry-index in
    left_fits (ended (cube_line n c.cube.result.care c.cube.result.value)) (lines_from n cubes (i + 1)) c.loop-entry.invariant (lines_more n cubes i _ _ c.loop-entry-test.true c.cube.ensures.care c.cube.ensures.value)

pub loop-entry-preserved : goal.loop-entry-preserved
loop-entry-preserved c =
    let n = c.args.n in
    let cubes = c.args.cubes.now in
    let i = c.loop-entry.entry-index in
    left_more (ended (cube_line n c.cube.result.care c.cube.result.value)) (lines_from n cubes (i + 1)) c.loop-entry.invariant (lines_more n cubes i _ _ c.loop-entry-test.true c.cube.ensures.care c.cube.ensures.value) c.write_cube.ensures

pub returns : goal.returns
returns c =
    let n = c.args.n in
    let cubes = c.args.cubes.now in
    let none = lines_all n cubes c.loop-entry.entry-index (omega arith) in
    let size = text_size n cubes _ c.write_head-head.ensures in
    let fits : length (text_of n cubes) ≤ length c.args.text.now = omega arith in
    let Ends : List ℕ → Type 0 = λ r. Wrote c.loop-entry.writer r c.write.new.self in
    let Writes : List ℕ → Type 0 = λ r. Wrote c.new-writer.result r c.write.new.self in
    let rest = c.loop-entry.invariant.rest _ (subst Ends (sym none) c.write.ensures) in
    let whole = subst Writes (sym (text_parts n cubes)) (wrote_more c.write_head_lines.ensures rest) in
    let memory = written_all c.new-writer.ensures (omega (arith, ap length c.new-writer.ensures.same)) whole in
    let written = search (rules, sym (whole.same_reference ∙ c.new-writer.ensures.same_reference)) ∙ memory in
    ap₂ (λ k bytes. (Ok k, bytes)) size written ∙ sym (cond-false _ _ _ (le-ltb _ _ fits))

use Rattle.std.proofs.Common.{ℕ, List, sym, subst}
use Rattle.pla.specs.Writing.{Wrote}
use Rattle.pla.proofs.Parts.{head_parts}
use Rattle.pla.proofs.Writing.{wrote_more}
use Rattle.pla.proofs.head.write_head_lines.Goals as goal

pub returns : goal.returns
returns c =
    let Writes : List ℕ → Type 0 = λ bytes. Wrote c.args.writer.now bytes c.write-3.new.self in
    let parts = wrote_more c.write.ensures (wrote_more c.write_number.ensures (wrote_more c.write-2.ensures (wrote_more c.write_number-2.ensures c.write-3.ensures))) in
    subst Writes (sym (head_parts c.args.n c.args.count)) parts

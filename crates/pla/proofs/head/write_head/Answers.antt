use Rattle.std.proofs.Common.{◌∙◌, ap, length, arith}
use Rattle.pla.proofs.Parts.{length_head_le}
use Rattle.pla.proofs.Writing.{written_front}
use Rattle.pla.proofs.head.write_head.Goals as goal

pub returns : goal.returns
returns c =
    let n = c.args.n in
    let count = c.args.count in
    c.into_written.ensures ∙ written_front c.new-writer.ensures (omega (arith, length_head_le n count, ap length c.new-writer.ensures.same)) c.write_head_lines.ensures

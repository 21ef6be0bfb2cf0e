use Rattle.std.proofs.Common.{◌≡◌, ◌+◌, ◌-◌, length, refl, ap, ◌∙◌, ap₂, arith}
use borrow.Rule.Slice.PartMut.{put_mid}
use Rattle.pla.proofs.Stored.{stored_part, length_stored}
use Rattle.pla.proofs.writer.Writer.write.Goals as goal

pub returns : goal.returns
returns c =
    let at = c.args.self.now.at in
    let memory = c.args.self.now.memory.now in
    let bytes = c.args.bytes.now in
    let size : (at + length bytes) - at ≡ length bytes = omega arith in
    let after = ap₂ (λ k ys. put_mid at k memory ys) size c.copy_from_slice.ensures.after ∙ stored_part memory at bytes c.requires in
    record { same_reference = refl; size = ap length after ∙ length_stored memory at bytes; after = after; place = refl }

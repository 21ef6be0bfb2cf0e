use Rattle.std.proofs.Common.{◌≡◌, ◌^◌, cond, refl, ap, ◌∙◌}
use lib.Bits.{bit_or}
use Rattle.search.proofs.Halves.{below_or, inside_half}
use Rattle.search.proofs.Opens.{open_below, one_fewer}
use Rattle.search.proofs.branch.Branch.half.Goals as goal

pub invariant_of-result : goal.invariant_of-result
invariant_of-result c =
    let b = c.args.self in
    let lt = open_below b.inputs b.care c.args.place c.requires in
    record {
      few = b.few;
      below = rw c.one_at-one.ensures (below_or b.care c.args.place b.inputs b.below lt);
      inside = rw c.with_bit-value.ensures (inside_half c.args.bit b.value b.care c.one_at-one.result b.inside);
    }

pub returns : goal.returns
returns c =
    let b = c.args.self in
    let lt = open_below b.inputs b.care c.args.place c.requires in
    let fixed : bit_or b.care c.one_at-one.result ≡ bit_or b.care (2 ^ c.args.place) = ap (bit_or b.care) c.one_at-one.ensures in
    record {
      inputs = refl;
      care = fixed;
      value = c.with_bit-value.ensures ∙ ap (λ one. cond c.args.bit (bit_or b.value one) b.value) c.one_at-one.ensures;
      fewer = one_fewer b.inputs b.care c.args.place _ c.requires fixed (rw fixed (below_or b.care c.args.place b.inputs b.below lt));
    }

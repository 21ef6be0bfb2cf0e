use Rattle.std.proofs.Common.{◌∙◌, mod-eq_of_lt}
use Rattle.cubes.proofs.Bits.{below_limit}
use Rattle.search.proofs.Halves.{value_below}
use Rattle.search.proofs.branch.Branch.cube.Goals as goal

pub returns : goal.returns
returns c =
    let b = c.args.self in
    record {
      care = c.low.ensures.care ∙ mod-eq_of_lt (below_limit b.care b.inputs b.few b.below);
      value = c.low.ensures.value ∙ mod-eq_of_lt (below_limit b.value b.inputs b.few (value_below b.value b.care b.inputs b.below b.inside));
    }

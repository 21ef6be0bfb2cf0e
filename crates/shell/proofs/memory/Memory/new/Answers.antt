use Rattle.std.proofs.Common.{◌∙◌, ap, replicate}
use Rattle.jobs.specs.Sizes.{enough}
use Rattle.shell.proofs.memory.Memory.new.Goals as goal

pub returns-clause-blank : goal.returns-clause-blank
returns-clause-blank c =
    record {
      gate_table = c.in_ok-vec.ensures.items_if_clones_equal (λ y same. same);
      bits = c.in_ok-vec-2.ensures.items_if_clones_equal (λ y same. same);
      words = c.in_ok-vec-3.ensures.items_if_clones_equal (λ y same. same) ∙ ap (replicate enough.words) c.new.ensures;
      signals = c.in_ok-vec-4.ensures.items_if_clones_equal (λ y same. same);
    }

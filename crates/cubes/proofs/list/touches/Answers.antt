use Rattle.std.proofs.Common.{ℕ, ◌<◌, List, length, Option, None, Some, rules, tests, arith}
use Rattle.std.specs.Prelude.{MatchOption}
use Rattle.std.specs.List.{AllWithin, HoldsAt}
use Rattle.std.proofs.lemmas.Iterator.{YieldsList-from_slice, IsFirst-from_position}
use Rattle.cubes.specs.declared.entry.Entry.{Entry}
use Rattle.cubes.specs.Cubes.{Touch, Touches, blank}
use Rattle.cubes.proofs.list.touches.Goals as goal

module _ (n care value : ℕ) (es : List Entry) where
  abbrev Meets : Entry → Type 0
  Meets e = Touch n care value e

  abbrev Apart : Entry → Type 0
  Apart e = Touch n care value e → ⊥

  first : (r : Option ℕ) → MatchOption r (AllWithin Apart es 0 (length es)) (λ i. (i < length es) × HoldsAt Meets es i × AllWithin Apart es 0 i) → Touches n care value es r
  first None none = λ i lt. none i blank (omega arith) lt
  first (Some i) at = (at.0, at.1 blank, λ j lt. at.2 j blank (omega arith) lt)

pub returns : goal.returns
returns c =
    first _ _ _ _ _
    (IsFirst-from_position _ _ _ (Meets c.args.n c.args.cube.care c.args.cube.value c.args.entries.now) (Apart c.args.n c.args.cube.care c.args.cube.value c.args.entries.now)
    c.position.ensures.ran (YieldsList-from_slice c.args.entries.now cc) (λ x q k. search (rules, tests)) (λ x q k. (search (rules, tests), search (rules, tests))))

use Rattle.std.proofs.Common.{rules, tests, true, false, ◌≡◌}
use Rattle.std.proofs.lemmas.Iterator.{first_from_Range}
use Rattle.search.specs.Branches.{is_open}
use Rattle.search.proofs.Opens.{first_open}
use Rattle.search.proofs.branch.Branch.open_place.Goals as goal

pub returns-else-is_open : goal.returns-else-is_open
returns-else-is_open c =
    let b = c.args.self in
    first_open b.inputs b.care c.find.result
    (first_from_Range _ _ _ _ (λ k. is_open b.inputs b.care k ≡ true) (λ k. is_open b.inputs b.care k ≡ false) c.find.ensures.ran
    (λ x q k. search (rules, tests)) (λ x q k. (search (rules, tests), search (rules, tests))))

use Rattle.std.proofs.Common.{◌≡◌, ℕ, ◌+◌, ◌-◌, ◌<◌, ◌≤◌, ◌⊎◌, List, [], length, take, drop, Some, None, Option, sym, refl, ap, ◌∙◌, subst, ⊎_elim, arith}
use Rattle.std.proofs.lemmas.List.{drop_all, take_all, length-drop}
use Rattle.std.specs.Borrow.{Bor}
use Rattle.std.specs.Option.{MatchOption, unwrap_or}
use Rattle.std.specs.List.{slice_range}
use Rattle.text.specs.Numbers.{AllDigits, digits}
use Rattle.text.proofs.Digits.{digits_taken, all_digits}
use Rattle.text.proofs.numbers.run_at.Goals as goal

-- what stands from a place on, or nothing past the end
from_on : (bs : List ℕ) (at : ℕ) (o : Option (Bor (List ℕ)))
    → MatchOption o ((length bs < at) ⊎ (length bs < length bs)) (λ x. (at ≤ length bs) × (length bs ≤ length bs) × (x.now ≡ slice_range bs at (length bs)) × (length x.now + at ≡ length bs))
    → (none r : Bor (List ℕ)) → r ≡ unwrap_or o none → none.now ≡ [] → r.now ≡ drop at bs
from_on bs at None h none r e z = ap (λ (x : Bor (List ℕ)). x.now) e ∙ z ∙ sym (drop_all at bs (⊎_elim (λ i. omega arith) (λ i. omega arith) h))
from_on bs at (Some x) (a, b, i, l) none r e z = ap (λ (x : Bor (List ℕ)). x.now) e ∙ i ∙ take_all (length bs - at) (drop at bs) (omega (arith, length-drop at bs))

pub returns-clause-value : goal.returns-clause-value
returns-clause-value c =
    let rest = from_on c.args.file.now c.args.at c.get.result c.get.ensures.lookup.0 _ _ c.unwrap_or-rest.ensures refl in
    ap (λ (n : ℕ). take n c.unwrap_or-rest.result.now) c.digit_count.ensures ∙ digits_taken c.unwrap_or-rest.result.now ∙ ap digits rest

pub returns-clause-digits : goal.returns-clause-digits
returns-clause-digits c = subst AllDigits (sym (returns-clause-value c)) (all_digits (drop c.args.at c.args.file.now))

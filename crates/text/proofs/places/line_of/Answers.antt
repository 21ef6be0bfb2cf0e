use Rattle.std.proofs.Common.{◌≡◌, ℕ, ◌+◌, min, List, length, take, sym, ap, ◌∙◌, ⊎_elim, arith, rules}
use Rattle.std.proofs.lemmas.List.{take_all}
use Rattle.std.proofs.lemmas.Bool.{cases_lt}
use Rattle.text.specs.Places.{newlines}
use Rattle.text.proofs.places.line_of.Goals as goal

capped : (bs : List ℕ) (p : ℕ) → take (min p (length bs)) bs ≡ take p bs
capped bs p =
    ⊎_elim
    (λ h. let e : min p (length bs) ≡ p = omega arith in ap (λ (n : ℕ). take n bs) e)
    (λ h. take_all (min p (length bs)) bs (omega arith) ∙ sym (take_all p bs h))
    (cases_lt p (length bs))

pub returns : goal.returns
returns c =
    let count : c.count.result ≡ newlines (take c.min.result c.args.file.now) = search rules in
    ap (λ n. 1 + n) (count ∙ ap newlines (ap (λ (n : ℕ). take n c.args.file.now) c.min.ensures ∙ capped c.args.file.now c.args.place))

-- The table's rule is one test at each of its 256 entries, which antt computes.
use Rattle.std.proofs.Common.{◌≡◌, ℕ, ◌<◌, Bool, true, IsTrue, List, length, get_or, sym, ap, ◌∙◌, zero-add, arith, rules}
use Rattle.std.proofs.lemmas.Bool.{eqb-true}
use Rattle.std.proofs.lemmas.List.Elements.{All-get_or}
use Rattle.std.proofs.lemmas.List.FromFn.{get_or-enumerate_from, length-enumerate_from}
use Rattle.std.proofs.lemmas.List.Sums.{AllPass-from_list_all}
use Rattle.std.specs.List.{list_all, enumerate_from}
use Rattle.text.specs.Classes.{class_of, class_number, is}
use Rattle.text.specs.declared.classes.Class.{Class}
use Rattle.text.specs.declared.classes.Class.TheVariants.{Digit}
use Rattle.text.proofs.classes.class_of.Goals as goal

same_code : (x y : Class) → class_number x ≡ class_number y → x ≡ y
same_code x y e = grind arith

-- the entry of a byte is its class
abbrev right : ℕ × Class → Bool
right e = is e.1 (class_of e.0)

rule : (xs : List Class) (k : ℕ) → IsTrue (list_all right (enumerate_from 0 xs)) → k < length xs → get_or xs k Digit ≡ class_of k
rule xs k t h =
    let entries = enumerate_from 0 xs in
    let here = All-get_or (λ e. right e ≡ true) entries k (0, Digit) (omega (arith, length-enumerate_from 0 xs)) (AllPass-from_list_all right entries t) in
    let e = eqb-true _ _ (ap right (sym (get_or-enumerate_from 0 xs k (0, Digit) h)) ∙ here) in
    same_code _ _ (e ∙ ap (λ n. class_number (class_of n)) (zero-add k))

pub returns : goal.returns
returns c = search (rules, rule)

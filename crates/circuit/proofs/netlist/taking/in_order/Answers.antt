use Rattle.std.proofs.Common.{◌≡◌, ℕ, ◌+◌, ◌*◌, ◌/◌, ◌&&◌, ltb, List, [], ◌∷◌, refl, ap, ◌∙◌, rules, tests}
use Rattle.std.specs.List.{list_all, enumerate_from}
use Rattle.std.proofs.lemmas.Iterator.{YieldsList-from_slice}
use Rattle.std.proofs.lemmas.Iterator.Consumers.{YieldsList-from_enumerate}
use Rattle.std.proofs.lemmas.Iterator.Search.{all_from_yields_List}
use Rattle.circuit.specs.Circuits.{ordered}
use Rattle.circuit.proofs.netlist.taking.in_order.Goals as goal

ordered_all : (n k : ℕ) (gates : List ℕ) → list_all (λ (p : ℕ × ℕ). ltb p.1 (2 * (n + 1 + p.0 / 2))) (enumerate_from k gates) ≡ ordered n k gates
ordered_all n k [] = refl
ordered_all n k (operand ∷ gates) = ap (λ t. ltb operand (2 * (n + 1 + k / 2)) && t) (ordered_all n (k + 1) gates)

pub returns-clause-value : goal.returns-clause-value
returns-clause-value c =
    let n = c.args.inputs in
    all_from_yields_List (λ (p : ℕ × ℕ). ltb p.1 (2 * (n + 1 + p.0 / 2))) _ _ _ c.all.ensures.ran
    (YieldsList-from_enumerate (YieldsList-from_slice c.args.gates.now cc) cc) (λ x b q k. search (rules, tests))
    ∙ ordered_all n 0 c.args.gates.now

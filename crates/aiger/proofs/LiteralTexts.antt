-- The input lines and the output line: what the reader accepts is what the grammar has. Assumes nothing.
use Rattle.std.proofs.Common.{◌≡◌, ℕ, zero, suc, ◌+◌, ◌*◌, ◌≤◌, eqb, ltb, List, [], ◌∷◌, drop, Ok, Result, sym, refl, ap, subst, arith}
use Rattle.std.proofs.lemmas.Bool.Decides.{nat_tests}
use Rattle.std.proofs.lemmas.Bool.{eqb-true, ltb-false}
use Rattle.faults.specs.declared.text.TextFault.{TextFault}
use Rattle.faults.specs.declared.circuit.CircuitFault.TheVariants.{Text}
use Rattle.text.specs.Lines.{item_at}
use Rattle.text.proofs.Answers.{ok_same, after_test, in_test}
use Rattle.aiger.specs.FaultLines.{located_at, located_in}
use Rattle.aiger.specs.Lines.{inputs_at, output_at}
use Rattle.aiger.specs.Grammar.{NumberLine, InputLines}
use Rattle.aiger.proofs.Carried.{up_ok, told_ok}
use Rattle.aiger.proofs.NumberTexts.{number_line_read, number_line_back}

abbrev Read : Type 0
Read = Result (ℕ × ℕ) TextFault

pub inputs_read : (n k p : ℕ) (bs rest : List ℕ) → InputLines k n (drop p bs) rest → (q : ℕ) × (inputs_at bs p k n ≡ Ok q) × (drop q bs ≡ rest)
inputs_read zero k p bs rest e = (p, refl, e)
inputs_read (suc n) k p bs rest (mid, line, more) =
    let a = number_line_read bs p (2 * k) mid line in
    let b = inputs_read n (k + 1) a.0 bs rest (subst (λ (l : List ℕ). InputLines (k + 1) n l rest) (sym a.2) more) in (
      b.0,
      grind (arith, nat_tests, a.1, b.1),
      b.2,
    )

pub inputs_back : (n k p q : ℕ) (bs : List ℕ) → inputs_at bs p k n ≡ Ok q → InputLines k n (drop p bs) (drop q bs)
inputs_back zero k p q bs e = ap (λ (i : ℕ). drop i bs) (ok_same p q e)
inputs_back (suc n) k p q bs e =
    let l = up_ok Text (located_in bs (item_at bs p 10)) _ q e in
    let t = in_test (eqb l.0.0 (2 * k)) _ _ _ l.2 in
    let a = number_line_back bs p l.0 (told_ok (located_at bs) _ _ l.1) in
    (drop l.0.1 bs, subst (λ (w : ℕ). NumberLine (w ∷ []) (drop p bs) (drop l.0.1 bs)) (eqb-true _ _ t.0) a, inputs_back n (k + 1) l.0.1 q bs t.1)

pub output_read : (bs : List ℕ) (p v hi i : ℕ) (rest : List ℕ) → v ≤ 2 * hi + 1 → NumberLine (v ∷ []) (drop p bs) rest
    → (q : ℕ) × (output_at bs p hi i ≡ Ok (v, q)) × (drop q bs ≡ rest)
output_read bs p v hi i rest low line =
    let a = number_line_read bs p v rest line in (
      a.0,
      grind (arith, nat_tests, a.1),
      a.2,
    )

pub output_back : (bs : List ℕ) (p hi i : ℕ) (v : ℕ × ℕ) → output_at bs p hi i ≡ Ok v → (v.0 ≤ 2 * hi + 1) × NumberLine (v.0 ∷ []) (drop p bs) (drop v.1 bs)
output_back bs p hi i v e =
    let l = up_ok Text (located_in bs (item_at bs p 10)) _ v e in
    let t = after_test (ltb (2 * hi + 1) l.0.0) _ _ _ l.2 in
    subst (λ (v : ℕ × ℕ). (v.0 ≤ 2 * hi + 1) × NumberLine (v.0 ∷ []) (drop p bs) (drop v.1 bs)) (ok_same l.0 v t.1)
    (ltb-false _ _ t.0, number_line_back bs p l.0 (told_ok (located_at bs) _ _ l.1))

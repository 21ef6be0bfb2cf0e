use Rattle.std.proofs.Common.{◌≡◌, ℕ, suc, ◌+◌, ◌-◌, ◌*◌, ◌≤◌, cond, eqb, List, Err, Result, sym, ap, ◌∙◌, arith}
use Rattle.std.proofs.lemmas.Result.{err_from_is_err_and}
use Rattle.std.proofs.lemmas.Bool.{cond-true, cond-false, eq-eqb, ne_eqb}
use Rattle.faults.specs.declared.circuit.Located.{Located}
use Rattle.faults.specs.declared.circuit.Rule.TheVariants.{InputLine}
use Rattle.faults.specs.declared.circuit.CircuitFault.{CircuitFault}
use Rattle.faults.specs.declared.circuit.CircuitFault.TheVariants.{Text, Broken}
use Rattle.aiger.specs.FaultLines.{located_in}
use Rattle.aiger.specs.Lines.{up, inputs_at}
use Rattle.text.specs.Lines.{item_at}
use Rattle.aiger.proofs.literals.input_lines.Goals as goal

abbrev after : List ℕ → ℕ → ℕ → ℕ × ℕ → Result ℕ CircuitFault
after bs k n v = cond (eqb v.0 (2 * k)) (inputs_at bs v.1 (k + 1) (n + 1 - (k + 1))) (Err (Broken InputLine (k + 1)))

-- the line of input k, and then the others
line : (bs : List ℕ) (p k n : ℕ) (r : Result (ℕ × ℕ) Located) → k ≤ n → r ≡ located_in bs (item_at bs p 10) → inputs_at bs p k (n + 1 - k) ≡ up Text r (after bs k n)
line bs p k n r h e =
    let one : n + 1 - k ≡ suc (n + 1 - (k + 1)) = omega arith in
    ap (inputs_at bs p k) one ∙ ap (λ (r : Result (ℕ × ℕ) Located). up Text r (after bs k n)) (sym e)

pub returns-in_err-literal : goal.returns-in_err-literal
returns-in_err-literal c =
    let bs = c.args.file.bytes.now in
    let p = err_from_is_err_and c.from_residual.result c.from_residual.ensures.1 in
    p.1 ∙ ap Err p.2 ∙ sym (line bs c.loop-k.at c.loop-k.k c.args.counts.inputs _ (omega arith) (c.in_err-literal.ensures ∙ ap (located_in bs) c.number_line.ensures)) ∙ c.loop-k.invariant

pub returns-then-literal-k : goal.returns-then-literal-k
returns-then-literal-k c =
    let bs = c.args.file.bytes.now in
    sym (cond-false _ _ _ (ne_eqb _ _ c.if-literal-k.true))
    ∙ sym (line bs c.loop-k.at c.loop-k.k c.args.counts.inputs _ (omega arith) (c.in_ok-literal.ensures ∙ ap (located_in bs) c.number_line.ensures)) ∙ c.loop-k.invariant

pub loop-k-preserved : goal.loop-k-preserved
loop-k-preserved c =
    let bs = c.args.file.bytes.now in
    sym (cond-true _ _ _ (eq-eqb _ _ c.if-literal-k.false))
    ∙ sym (line bs c.loop-k.at c.loop-k.k c.args.counts.inputs _ (omega arith) (c.in_ok-literal.ensures ∙ ap (located_in bs) c.number_line.ensures)) ∙ c.loop-k.invariant

use Rattle.std.proofs.Common.{◌≡◌, ℕ, suc, ◌+◌, ◌-◌, ◌*◌, ◌<◌, List, set, Ok, Err, Result, ap, ◌∙◌, arith}
use Rattle.std.proofs.lemmas.Result.{err_from_is_err_and}
use Rattle.faults.specs.declared.circuit.Located.{Located}
use Rattle.aiger.specs.declared.gates.Gate.{Gate}
use Rattle.faults.specs.declared.circuit.CircuitFault.{CircuitFault}
use Rattle.faults.specs.declared.circuit.CircuitFault.TheVariants.{Text}
use Rattle.aiger.specs.FaultLines.{located_in}
use Rattle.aiger.specs.Lines.{gate_at, gate_fits, wrote, keep, gates_at}
use Rattle.aiger.proofs.gates.gate_lines.Goals as goal

module _ (bs : List ℕ) (i k n p : ℕ) (t : List ℕ) (h : k < n) where
  after : Gate × ℕ → List ℕ × Result ℕ CircuitFault
  after g = keep (λ e. e) t (gate_fits g.0 i k) (λ u. gates_at bs i (k + 1) (n - (k + 1)) g.1 (wrote t k g.0))

  -- the line of gate k, and then the others
  line : (r : Result (Gate × ℕ) Located) → r ≡ located_in bs (gate_at bs p) → keep Text t r after ≡ gates_at bs i k (n - k) p t
  unfolding after
  line r e =
      let one : suc (n - (k + 1)) ≡ n - k = omega arith in
      ap (λ (r : Result (Gate × ℕ) Located). keep Text t r after) e ∙ ap (λ (m : ℕ). gates_at bs i k m p t) one

  judge : (g : Gate × ℕ) (r : Result (Unit {0}) CircuitFault) → Ok g ≡ located_in bs (gate_at bs p) → r ≡ gate_fits g.0 i k
      → keep (λ e. e) t r (λ u. gates_at bs i (k + 1) (n - (k + 1)) g.1 (wrote t k g.0)) ≡ gates_at bs i k (n - k) p t
  unfolding after
  judge g r e j = ap (λ (r : Result (Unit {0}) CircuitFault). keep (λ e. e) t r (λ u. gates_at bs i (k + 1) (n - (k + 1)) g.1 (wrote t k g.0))) j ∙ line (Ok g) e

pub returns-in_err-gate : goal.returns-in_err-gate
returns-in_err-gate c =
    let bs = c.args.file.bytes.now in
    let q = err_from_is_err_and c.from_residual.result c.from_residual.ensures.1 in
    ap (λ (r : Result ℕ CircuitFault). (c.loop-k.table, r)) (q.1 ∙ ap Err q.2)
    ∙ line bs c.args.counts.inputs c.loop-k.k c.args.counts.gates c.loop-k.at c.loop-k.table c.loop-k-test.true _ (c.in_err-gate.ensures ∙ ap (located_in bs) c.gate_line.ensures) ∙ c.loop-k.invariant

pub returns-in_err-judge : goal.returns-in_err-judge
returns-in_err-judge c =
    let bs = c.args.file.bytes.now in
    let q = err_from_is_err_and c.from_residual-in_err-judge.result c.from_residual-in_err-judge.ensures.1 in
    ap (λ (r : Result ℕ CircuitFault). (c.loop-k.table, r)) (q.1 ∙ ap Err q.2)
    ∙ judge bs c.args.counts.inputs c.loop-k.k c.args.counts.gates c.loop-k.at c.loop-k.table c.loop-k-test.true _ _ (c.in_ok-gate.ensures ∙ ap (located_in bs) c.gate_line.ensures) c.in_err-judge.ensures ∙ c.loop-k.invariant

pub loop-k-preserved : goal.loop-k-preserved
loop-k-preserved c =
    let bs = c.args.file.bytes.now in
    let k = c.loop-k.k in
    ap (gates_at bs c.args.counts.inputs (k + 1) (c.args.counts.gates - (k + 1)) c.in_ok-gate.end) (λ j. set (set c.loop-k.table (2 * k) (c.words-larger.ensures j).0) (2 * k + 1) (c.words-larger.ensures j).1)
    ∙ judge bs c.args.counts.inputs k c.args.counts.gates c.loop-k.at c.loop-k.table c.loop-k-test.true _ _ (c.in_ok-gate.ensures ∙ ap (located_in bs) c.gate_line.ensures) c.in_ok-judge.ensures ∙ c.loop-k.invariant

use Rattle.std.proofs.Common.{◌≡◌, ℕ, [], ◌+◌, ◌-◌, ◌*◌, ◌/◌, ◌<◌, ◌++◌, length, get_or, take, drop, set, sym, ap, ◌∙◌, add_assoc, arith, take-append-drop}
use borrow.Rule.Slice.PartMut.{put_mid}
use Rattle.std.proofs.lemmas.List.{drop_all, drop-set-lt}
use Rattle.circuit.specs.Circuits.{grown, literal}
use Rattle.circuit.proofs.Gates.{gate_more, stored, pair_at, pair_below}
use Rattle.circuit.proofs.evaluator.fill.Goals as goal

pub operand-left-requires : goal.operand-left-requires
operand-left-requires g c =
    omega (arith, pair_below c.args.gates.now c.as_chunks.result.0.now c.args.first c.loop-k.k 0 c.as_chunks.ensures.front (omega arith) (omega arith) c.requires.below)

pub operand-right-requires : goal.operand-right-requires
operand-right-requires g c =
    omega (arith, pair_below c.args.gates.now c.as_chunks.result.0.now c.args.first c.loop-k.k 1 c.as_chunks.ensures.front (omega arith) (omega arith) c.requires.below)

pub loop-k-preserved : goal.loop-k-preserved
loop-k-preserved g c =
    let o = g.V.Value.ops in
    let k = c.loop-k.k in
    let first = c.args.first in
    let vs = c.loop-k.values in
    let gates = c.args.gates.now in
    let v = c.and.result in
    let inside : first + k < length vs = omega arith in
    let low : get_or gates (2 * k) 0 / 2 < first + k = omega (arith, c.requires.below (2 * k) (omega arith)) in
    let high : get_or gates (2 * k + 1) 0 / 2 < first + k = omega (arith, c.requires.below (2 * k + 1) (omega arith)) in
    let put : put_mid first (length vs - first) vs c.store.new.part ≡ set vs (first + k) v = stored vs _ first k v inside c.store.ensures in
    let pairs = c.as_chunks.result.0.now in
    let zero_on : 2 * k + 0 ≡ 2 * k = omega arith in
    let word : (j : ℕ) → j < 2 → get_or (get_or pairs k []) j 0 ≡ get_or gates (2 * k + j) 0 =
    λ j l. ap (λ p. get_or (get_or p k []) j 0) c.as_chunks.ensures.front ∙ pair_at gates (length gates / 2) k j (omega arith) l in
    let left : get_or (get_or pairs k []) 0 0 ≡ get_or gates (2 * k) 0 = word 0 (omega arith) ∙ ap (λ i. get_or gates i 0) zero_on in
    let right : get_or (get_or pairs k []) 1 0 ≡ get_or gates (2 * k + 1) 0 = word 1 (omega arith) in
    let gate = gate_more o gates vs (first + k) k v (omega arith) inside low high (c.and.ensures ∙ (λ i. o.both ((c.operand-left.ensures ∙ ap (literal o vs) left) i) ((c.operand-right.ensures ∙ ap (literal o vs) right) i))) in
    let end = first + length gates / 2 in (
      (λ i. grown o (drop (2 * (k + 1)) gates) (take (sym (add_assoc first k 1) i) (put i))) ∙ sym gate ∙ c.loop-k.invariant.0,
      ap (drop end) put ∙ drop-set-lt end vs (first + k) v (omega arith) ∙ c.loop-k.invariant.1,
    )

pub returns : goal.returns
returns g c =
    let o = g.V.Value.ops in
    let k = c.loop-k.k in
    let vs = c.loop-k.values in
    let gates = c.args.gates.now in
    let end = c.args.first + length gates / 2 in
    let at_end : end ≡ c.args.first + k = omega arith in
    let none = drop_all (2 * k) gates (omega arith) in
    sym (take-append-drop end vs) ∙ (λ i. ap (λ j. take j vs) at_end i ++ c.loop-k.invariant.1 i)
    ∙ ap (λ l. l ++ drop end c.args.values.now) (ap (λ l. grown o l (take (c.args.first + k) vs)) (sym none) ∙ c.loop-k.invariant.0)

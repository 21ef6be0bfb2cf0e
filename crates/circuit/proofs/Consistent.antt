-- Every gate's place holds the AND of its operands, read from the same table.
use Rattle.std.proofs.Common.{◌≡◌, ℕ, zero, suc, ◌+◌, ◌*◌, ◌/◌, ◌<◌, List, [], ◌∷◌, ◌++◌, length, get_or, sym, refl, ap, ◌∙◌, subst, ap₂, arith}
use Rattle.std.proofs.lemmas.List.{get_or_append_left, length-append}
use Rattle.circuit.specs.Kinds.{Ops}
use Rattle.circuit.specs.Circuits.{Netlist, either, literal, grown, variables}
use Rattle.circuit.specs.Answers.{Consistent}
use Rattle.circuit.proofs.Gates.{length_grown}

module _ {X : Type 0} (o : Ops X) where
  -- the gates' values stand after what was there
  grown_front : (gates : List ℕ) (vs : List X) (i : ℕ) → i < length vs → get_or (grown o gates vs) i o.falsity ≡ get_or vs i o.falsity
  grown_front [] vs i h = refl
  grown_front (r ∷ []) vs i h = refl
  grown_front (r ∷ s ∷ gates) vs i h =
      let v = o.both (literal o vs r) (literal o vs s) in
      grown_front gates (vs ++ v ∷ []) i (simp length-append (omega arith)) ∙ get_or_append_left vs (v ∷ []) o.falsity i h

  front_literal : (gates : List ℕ) (vs : List X) (l : ℕ) → l / 2 < length vs → literal o vs l ≡ literal o (grown o gates vs) l
  front_literal gates vs l h = ap (λ v. either o v l) (sym (grown_front gates vs (l / 2) h))

  at_end : (vs : List X) (v : X) → get_or (vs ++ v ∷ []) (length vs) o.falsity ≡ v
  at_end [] v = refl
  at_end (x ∷ vs) v = at_end vs v

  pub grown_gate : (gates : List ℕ) (vs : List X) (k : ℕ) → 2 * k + 1 < length gates
      → ((j : ℕ) → j < length gates → get_or gates j 0 / 2 < length vs + j / 2)
      → get_or (grown o gates vs) (length vs + k) o.falsity
      ≡ o.both (literal o (grown o gates vs) (get_or gates (2 * k) 0)) (literal o (grown o gates vs) (get_or gates (2 * k + 1) 0))
  grown_gate [] vs k h b = absurd (omega arith)
  grown_gate (r ∷ []) vs k h b = absurd (omega arith)
  grown_gate (r ∷ s ∷ gates) vs zero h b =
      let v = o.both (literal o vs r) (literal o vs s) in
      let here : length vs + 0 ≡ length vs = omega arith in
      let low : r / 2 < length vs = omega (arith, b 0 (omega arith)) in
      let high : s / 2 < length vs = omega (arith, b 1 (omega arith)) in
      ap (λ i. get_or (grown o gates (vs ++ v ∷ [])) i o.falsity) here
      ∙ grown_front gates (vs ++ v ∷ []) (length vs) (simp length-append (omega arith)) ∙ at_end vs v
      ∙ ap₂ o.both (front_literal (r ∷ s ∷ gates) vs r low) (front_literal (r ∷ s ∷ gates) vs s high)
  grown_gate (r ∷ s ∷ gates) vs (suc k) h b =
      let v = o.both (literal o vs r) (literal o vs s) in
      let more = length-append vs (v ∷ []) in
      let there : length vs + suc k ≡ length (vs ++ v ∷ []) + k = omega arith in
      let first : suc (suc (2 * k)) ≡ 2 * suc k = omega arith in
      let second : suc (suc (2 * k + 1)) ≡ 2 * suc k + 1 = omega arith in
      let all = grown o gates (vs ++ v ∷ []) in
      ap (λ i. get_or all i o.falsity) there
      ∙ grown_gate gates (vs ++ v ∷ []) k (omega arith) (λ j l. omega (arith, b (suc (suc j)) (omega arith)))
      ∙ ap₂ (λ i j. o.both (literal o all (get_or (r ∷ s ∷ gates) i 0)) (literal o all (get_or (r ∷ s ∷ gates) j 0))) first second

  front_at : (xs ys : List X) (l : ℕ) → l / 2 < length xs → literal o xs l ≡ literal o (xs ++ ys) l
  front_at xs ys l h = ap (λ v. either o v l) (sym (get_or_append_left xs ys o.falsity (l / 2) h))

  pub consistent : (c : Netlist) (held rest vs : List X) (v : X) → length held ≡ c.inputs
      → ((j : ℕ) → j < length c.gates → get_or c.gates j 0 < 2 * (c.inputs + 1 + j / 2))
      → vs ≡ variables o c.gates held ++ rest → v ≡ literal o vs c.output → Consistent o c vs v
  consistent c held rest vs v e b is out =
      let n = c.inputs in
      let gates = c.gates in
      let xs = variables o gates held in
      let start : length (o.falsity ∷ held) ≡ n + 1 = omega arith in
      let long = length_grown o gates (o.falsity ∷ held) in
      let gate : (k : ℕ) → k < length gates / 2
      → get_or (xs ++ rest) (n + 1 + k) o.falsity ≡ o.both (literal o (xs ++ rest) (get_or gates (2 * k) 0)) (literal o (xs ++ rest) (get_or gates (2 * k + 1) 0)) =
      λ k l.
      get_or_append_left xs rest o.falsity (n + 1 + k) (omega arith) ∙ ap (λ m. get_or xs (m + k) o.falsity) (sym start)
      ∙ grown_gate gates (o.falsity ∷ held) k (omega arith) (λ j h. omega (arith, b j h))
      ∙ ap₂ o.both (front_at xs rest (get_or gates (2 * k) 0) (omega (arith, b (2 * k) (omega arith))))
      (front_at xs rest (get_or gates (2 * k + 1) 0) (omega (arith, b (2 * k + 1) (omega arith)))) in
      subst (λ ws. Consistent o c ws v) (sym is)
      (record {
        place0 = get_or_append_left xs rest o.falsity 0 (omega arith) ∙ grown_front gates (o.falsity ∷ held) 0 (omega arith);
        gate = gate;
        out = out ∙ ap (λ ws. literal o ws c.output) is;
      })

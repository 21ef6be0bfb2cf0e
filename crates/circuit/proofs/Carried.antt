-- What false, AND and inverse keep between a value and a bit, the circuit carries from the inputs to the output.
use Rattle.std.proofs.Common.{◌≡◌, ℕ, zero, suc, ◌+◌, ◌-◌, ◌/◌, ◌%◌, ◌<◌, Bool, true, false, cond, not, ◌&&◌, eqb, List, [], ◌∷◌, ◌++◌, length, get_or, take, drop, sym, ap, ◌∙◌, subst, add_comm, arith}
use Rattle.std.proofs.lemmas.List.{get_or-take, get_or-drop, length-take, length-drop}
use Rattle.circuit.specs.Kinds.{Ops, bit_at}
use Rattle.circuit.specs.Circuits.{Netlist, bits, literal, grown}
use Rattle.circuit.specs.Solutions.{input_bits, solves}
use Rattle.circuit.specs.Answers.{output_of}
use Rattle.circuit.proofs.Rows.{length_per, at_per}

-- each value goes with the bit at its place
abbrev Along : {X : Type 0} → (X → Bool → Type 0) → List X → List Bool → Type 0
Along R [] [] = Unit {0}
Along R [] (b ∷ bs) = ⊥
Along R (x ∷ xs) [] = ⊥
Along R (x ∷ xs) (b ∷ bs) = R x b × Along R xs bs

module _ {X : Type 0} (o : Ops X) (R : X → Bool → Type 0) (nothing : R o.falsity false)
    (joins : (u w : X) (p q : Bool) → R u p → R w q → R (o.both u w) (p && q))
    (flips : (u : X) (p : Bool) → R u p → R (o.inverse u) (not p)) where
  along_at : (xs : List X) (bs : List Bool) → Along R xs bs → (i : ℕ) → R (get_or xs i o.falsity) (get_or bs i false)
  along_at [] [] a i = nothing
  along_at [] (b ∷ bs) a i = absurd a
  along_at (x ∷ xs) [] a i = absurd a
  along_at (x ∷ xs) (b ∷ bs) a zero = a.0
  along_at (x ∷ xs) (b ∷ bs) a (suc i) = along_at xs bs a.1 i

  along_push : (xs : List X) (bs : List Bool) (x : X) (b : Bool) → Along R xs bs → R x b → Along R (xs ++ x ∷ []) (bs ++ b ∷ [])
  along_push [] [] x b a e = (e, tt)
  along_push [] (c ∷ bs) x b a e = absurd a
  along_push (y ∷ xs) [] x b a e = absurd a
  along_push (y ∷ xs) (c ∷ bs) x b a e = (a.0, along_push xs bs x b a.1 e)

  along_places : (xs : List X) (bs : List Bool) → length xs ≡ length bs → ((i : ℕ) → i < length bs → R (get_or xs i o.falsity) (get_or bs i false)) → Along R xs bs
  along_places [] [] e h = tt
  along_places [] (b ∷ bs) e h = absurd (omega arith)
  along_places (x ∷ xs) [] e h = absurd (omega arith)
  along_places (x ∷ xs) (b ∷ bs) e h = (h 0 (omega arith), along_places xs bs (omega arith) (λ i l. h (suc i) (omega arith)))

  along_either : (odd : Bool) (x : X) (b : Bool) → R x b → R (cond odd (o.inverse x) x) (cond odd (not b) b)
  along_either true x b e = flips x b e
  along_either false x b e = e

  along_literal : (xs : List X) (bs : List Bool) (l : ℕ) → Along R xs bs → R (literal o xs l) (literal bits bs l)
  along_literal xs bs l a = along_either (eqb (l % 2) 1) _ _ (along_at xs bs a (l / 2))

  along_grown : (gates : List ℕ) (xs : List X) (bs : List Bool) → Along R xs bs → Along R (grown o gates xs) (grown bits gates bs)
  along_grown [] xs bs a = a
  along_grown (r ∷ []) xs bs a = a
  along_grown (r ∷ s ∷ gates) xs bs a =
      along_grown gates _ _ (along_push xs bs _ _ a (joins _ _ _ _ (along_literal xs bs r a) (along_literal xs bs s a)))

  -- bit k of the row goes with input n - k
  pub carried : (c : Netlist) (vs : List X) (row : ℕ) → c.inputs < length vs
      → ((k : ℕ) → k < c.inputs → R (get_or vs (c.inputs - k) o.falsity) (bit_at row k)) → R (output_of o c vs) (solves c row)
  carried c vs row h a =
      let n = c.inputs in
      let front = take n (drop 1 vs) in
      let bs = input_bits n row in
      let many : length bs ≡ n = length_per (bit_at row) n in
      let value : (i : ℕ) → i < n → get_or vs (i + 1) o.falsity ≡ get_or front i o.falsity =
      λ i l. sym (get_or-take n (drop 1 vs) i o.falsity l ∙ get_or-drop 1 vs i o.falsity ∙ ap (λ j. get_or vs j o.falsity) (add_comm 1 i)) in
      let place : (i : ℕ) → i < length bs → R (get_or front i o.falsity) (get_or bs i false) =
      λ i l.
      let lt : i < n = omega arith in
      let at : n - (n - 1 - i) ≡ i + 1 = omega arith in
      subst (λ v. R v (get_or bs i false)) (ap (λ j. get_or vs j o.falsity) at ∙ value i lt)
      (subst (λ b. R (get_or vs (n - (n - 1 - i)) o.falsity) b) (sym (at_per (bit_at row) false n i lt)) (a (n - 1 - i) (omega arith))) in
      along_literal _ _ c.output (along_grown c.gates (o.falsity ∷ front) (false ∷ bs) (nothing, along_places front bs (simp (length-take, length-drop) (omega arith)) place))

-- One gate more, and the value table that the evaluator leaves.
use Rattle.std.proofs.Common.{◌≡◌, ℕ, zero, suc, ◌+◌, ◌-◌, ◌*◌, ◌/◌, ◌<◌, List, [], ◌∷◌, ◌++◌, length, get_or, take, drop, set, sym, ap, ◌∙◌, append-nil, add-one, arith, take-append-drop}
use borrow.Rule.Slice.PartMut.{put_mid, post_of}
use Rattle.std.proofs.lemmas.List.{get_or-take, get_or-drop, get_or_append_left, length-append, length-take, take_more_set, drop_more, take_rest, drop-set-add, take-set-le, drop-set-lt, drop_all, length-drop}
use Rattle.std.specs.Simd.{first_chunks}
use Rattle.circuit.specs.Kinds.{Ops}
use Rattle.circuit.specs.Circuits.{Netlist, highest, either, literal, grown, variables}
use Rattle.circuit.specs.Answers.{table_with, output_of}

-- a write into the part from `first` on
pub stored : {X : Type 0} (vs part : List X) (first k : ℕ) (v : X) → first + k < length vs
    → part ≡ set (take (length vs - first) (drop first vs)) k v → put_mid first (length vs - first) vs part ≡ set vs (first + k) v
stored vs part first k v h e =
    let whole = set vs (first + k) v in
    let back : part ≡ drop first whole = e ∙ ap (λ l. set l k v) (take_rest vs first) ∙ sym (drop-set-add first vs k v) in
    let front : take first vs ≡ take first whole = sym (take-set-le first vs (first + k) v (omega arith)) in
    let none : post_of first (length vs - first) vs ≡ [] = drop_all (length vs - first) (drop first vs) (simp length-drop (omega arith)) in
    (λ i. front i ++ (back i ++ none i)) ∙ ap (λ l. take first whole ++ l) (append-nil _) ∙ take-append-drop first whole

-- the gates' words by pairs
pub pair_at : (gates : List ℕ) (n k j : ℕ) → k < n → j < 2 → get_or (get_or (first_chunks 2 n gates) k []) j 0 ≡ get_or gates (2 * k + j) 0
pair_at gates zero k j h l = absurd (omega arith)
pair_at gates (suc n) zero j h l = let e : j ≡ 2 * 0 + j = omega arith in get_or-take 2 gates j 0 l ∙ ap (λ i. get_or gates i 0) e
pair_at gates (suc n) (suc k) j h l =
    let e : 2 + (2 * k + j) ≡ 2 * suc k + j = omega arith in
    pair_at (drop 2 gates) n k j (omega arith) l ∙ get_or-drop 2 gates (2 * k + j) 0 ∙ ap (λ i. get_or gates i 0) e

pub pair_below : (gates : List ℕ) (pairs : List (List ℕ)) (first k j : ℕ) → pairs ≡ first_chunks 2 (length gates / 2) gates → k < length gates / 2 → j < 2
    → ((i : ℕ) → i < length gates → get_or gates i 0 < 2 * (first + i / 2)) → get_or (get_or pairs k []) j 0 / 2 < first + k
pair_below gates pairs first k j is h l b =
    let e : get_or (get_or pairs k []) j 0 ≡ get_or gates (2 * k + j) 0 = ap (λ p. get_or (get_or p k []) j 0) is ∙ pair_at gates (length gates / 2) k j h l in
    omega (arith, b (2 * k + j) (omega arith))

module _ {X : Type 0} (o : Ops X) where
  pub gate_more : (gates : List ℕ) (vs : List X) (j k : ℕ) (v : X) → 2 * k + 1 < length gates → j < length vs
      → get_or gates (2 * k) 0 / 2 < j → get_or gates (2 * k + 1) 0 / 2 < j
      → v ≡ o.both (literal o vs (get_or gates (2 * k) 0)) (literal o vs (get_or gates (2 * k + 1) 0))
      → grown o (drop (2 * k) gates) (take j vs) ≡ grown o (drop (2 * (k + 1)) gates) (take (j + 1) (set vs j v))
  gate_more gates vs j k v h hj hr hs e =
      let r = get_or gates (2 * k) 0 in
      let s = get_or gates (2 * k + 1) 0 in
      let split : drop (2 * k) gates ≡ r ∷ s ∷ drop (2 * k + 1 + 1) gates = drop_more gates (2 * k) 0 (omega arith) ∙ ap (λ l. r ∷ l) (drop_more gates (2 * k + 1) 0 h) in
      let two : 2 * k + 1 + 1 ≡ 2 * (k + 1) = omega arith in
      let near_r = get_or-take j vs (r / 2) o.falsity hr in
      let near_s = get_or-take j vs (s / 2) o.falsity hs in
      let gate : o.both (literal o (take j vs) r) (literal o (take j vs) s) ≡ v = (λ i. o.both (either o (near_r i) r) (either o (near_s i) s)) ∙ sym e in
      ap (λ l. grown o l (take j vs)) split ∙ (λ i. grown o (drop (two i) gates) (take j vs ++ gate i ∷ []))
      ∙ ap (grown o (drop (2 * (k + 1)) gates)) (sym (take_more_set vs j v hj))

  pub length_grown : (gates : List ℕ) (vs : List X) → length (grown o gates vs) ≡ length vs + length gates / 2
  length_grown [] vs = omega arith
  length_grown (r ∷ []) vs = omega arith
  length_grown (r ∷ s ∷ gates) vs = length_grown gates (vs ++ _ ∷ []) ∙ omega (arith, length-append vs (o.both (literal o vs r) (literal o vs s) ∷ []))

  from_one : (n : ℕ) (vs : List X) (z : X) → 0 < length vs → z ≡ o.falsity → take (n + 1) (set vs 0 z) ≡ o.falsity ∷ take n (drop 1 vs)
  from_one n [] z h e = absurd (omega arith)
  from_one n (v ∷ vs) z h e = ap (λ j. take j (z ∷ vs)) (add-one n) ∙ ap (λ y. y ∷ take n vs) e

  -- what the evaluator leaves in the value table
  pub table_is : (c : Netlist) (vs last : List X) (z : X) → z ≡ o.falsity → highest c < length vs
      → last ≡ grown o c.gates (take (c.inputs + 1) (set vs 0 z)) ++ drop (c.inputs + 1 + length c.gates / 2) (set vs 0 z)
      → last ≡ table_with o c (take c.inputs (drop 1 vs)) vs
  table_is c vs last z e h is =
      is ∙ (λ i. grown o c.gates (from_one c.inputs vs z (omega arith) e i) ++ drop-set-lt (c.inputs + 1 + length c.gates / 2) vs 0 z (omega arith) i)

  pub output_is : (c : Netlist) (vs : List X) → highest c < length vs → c.output / 2 < c.inputs + 1 + length c.gates / 2
      → literal o (table_with o c (take c.inputs (drop 1 vs)) vs) c.output ≡ output_of o c vs
  output_is c vs h l =
      let long : length (variables o c.gates (take c.inputs (drop 1 vs))) ≡ c.inputs + 1 + length c.gates / 2 =
      length_grown c.gates _ ∙ simp (length-take, length-drop) (omega arith) in
      ap (λ v. either o v c.output) (get_or_append_left _ _ o.falsity (c.output / 2) (omega arith))

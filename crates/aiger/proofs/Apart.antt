-- No position twice: the marks of the machine, and the grammar's words. Assumes nothing.
use Rattle.std.proofs.Common.{◌≡◌, ℕ, ◌<◌, ◌≤◌, Bool, true, false, ◌≢◌, List, [], ◌∷◌, length, eqb, get_or, set, replicate, ⊎_elim, sym, refl, ap, ◌∙◌, arith}
use Rattle.std.proofs.lemmas.List.{get_or-set_same, get_or-set_other, length-set, get_or-replicate}
use Rattle.std.proofs.lemmas.Bool.{true≢false, false≢true, cases_Bool, eqb-true, eqb-false, true_from_ne_false}
use Rattle.circuit.specs.Limits.{max_inputs}
use Rattle.aiger.specs.Symbols.{slots}
use Rattle.aiger.specs.Grammar.{Symbol, InRange, SymbolLines, OtherThan, Apart}
use Rattle.aiger.specs.declared.states.Letter.{Letter}
use Rattle.aiger.specs.declared.states.Letter.TheVariants.{Input, Output}
use Rattle.aiger.proofs.SymbolTexts.{place, Free, marks}

abbrev at : Symbol → ℕ
at s = place s.letter s.position

abbrev Same : Symbol → Symbol → Type 0
Same s t = (s.letter ≡ t.letter) × (s.position ≡ t.position)

abbrev AllIn : ℕ → List Symbol → Type 0
AllIn n [] = Unit {0}
AllIn n (s ∷ ss) = InRange n s.letter s.position × AllIn n ss

pub all_in : (n : ℕ) (ss : List Symbol) (ts rest : List ℕ) → SymbolLines n ss ts rest → AllIn n ss
all_in n [] ts rest e = tt
all_in n (s ∷ ss) ts rest (mid, line, more) = (line.0, all_in n ss mid rest more)

place_low : (n : ℕ) (l : Letter) (p : ℕ) → n ≤ max_inputs → InRange n l p → place l p < slots
place_low n Input p h w = omega arith
place_low n Output p h w = omega arith

-- places tell letters and positions apart
place_same : (n : ℕ) (l : Letter) (p : ℕ) (k : Letter) (q : ℕ) → n ≤ max_inputs → InRange n l p → InRange n k q → place l p ≡ place k q → (l ≡ k) × (p ≡ q)
place_same n Input p Input q h w v e = (refl, e)
place_same n Input p Output q h w v e = absurd (omega arith)
place_same n Output p Input q h w v e = absurd (omega arith)
place_same n Output p Output q h w v e = (refl, omega arith)

same_place : (s t : Symbol) → Same s t → at t ≡ at s
same_place s t e = λ i. place (sym e.0 i) (sym e.1 i)

abbrev Unmarked : List Bool → List Symbol → Type 0
Unmarked z [] = Unit {0}
Unmarked z (s ∷ ss) = (get_or z (at s) false ≡ false) × Unmarked z ss

other_back : (n : ℕ) (z : List Bool) (s : Symbol) (ss : List Symbol) → at s < length z → Unmarked (set z (at s) true) ss → OtherThan s ss × Unmarked z ss
other_back n z s [] low u = (tt, tt)
other_back n z s (t ∷ ss) low (e, u) =
    let ne : at t ≢ at s = λ same. true≢false (sym (get_or-set_same z (at s) true false low) ∙ ap (λ (i : ℕ). get_or (set z (at s) true) i false) (sym same) ∙ e) in
    let more = other_back n z s ss low u in
    ((λ same. ne (same_place s t same), more.0), (sym (get_or-set_other z (at s) (at t) true false ne) ∙ e, more.1))

other_read : (n : ℕ) (z : List Bool) (s : Symbol) (ss : List Symbol) → n ≤ max_inputs → InRange n s.letter s.position → AllIn n ss → OtherThan s ss → Unmarked z ss → Unmarked (set z (at s) true) ss
other_read n z s [] h w v o u = tt
other_read n z s (t ∷ ss) h w (vt, v) (o, os) (e, u) =
    let ne : at t ≢ at s = λ same. o (place_same n s.letter s.position t.letter t.position h w vt (sym same)) in
    (get_or-set_other z (at s) (at t) true false ne ∙ e, other_read n z s ss h w v os u)

free_back : (n : ℕ) (z : List Bool) (ss : List Symbol) → n ≤ max_inputs → length z ≡ slots → AllIn n ss → Free z ss → Unmarked z ss × Apart ss
free_back n z [] h l w f = (tt, tt)
free_back n z (s ∷ ss) h l (w, ws) (e, f) =
    let low = place_low n s.letter s.position h w in
    let more = free_back n (set z (at s) true) ss h (length-set z (at s) true ∙ l) ws f in
    let o = other_back n z s ss (omega arith) more.0 in
    ((e, o.1), (o.0, more.1))

free_read : (n : ℕ) (z : List Bool) (ss : List Symbol) → n ≤ max_inputs → AllIn n ss → Unmarked z ss → Apart ss → Free z ss
free_read n z [] h w u a = tt
free_read n z (s ∷ ss) h (w, ws) (e, u) (o, a) = (e, free_read n (set z (at s) true) ss h ws (other_read n z s ss h w ws o u) a)

unmarked : (n : ℕ) (ss : List Symbol) → n ≤ max_inputs → AllIn n ss → Unmarked (replicate slots false) ss
unmarked n [] h w = tt
unmarked n (s ∷ ss) h (w, ws) = (get_or-replicate slots (at s) false false (place_low n s.letter s.position h w), unmarked n ss h ws)

pub apart_free : (n : ℕ) (ss : List Symbol) → n ≤ max_inputs → AllIn n ss → Apart ss → Free (replicate slots false) ss
apart_free n ss h w a = free_read n (replicate slots false) ss h w (unmarked n ss h w) a

pub free_apart : (n : ℕ) (ss : List Symbol) → n ≤ max_inputs → AllIn n ss → Free (replicate slots false) ss → Apart ss
free_apart n ss h w f = (free_back n (replicate slots false) ss h refl w f).1

-- a position that no symbol has is not marked by them
marks_other : (n : ℕ) (z : List Bool) (s : Symbol) (ss : List Symbol) → n ≤ max_inputs → InRange n s.letter s.position → AllIn n ss → OtherThan s ss → get_or (marks z ss) (at s) false ≡ get_or z (at s) false
marks_other n z s [] h w v o = refl
marks_other n z s (t ∷ ss) h w (vt, v) (o, os) =
    let ne : at s ≢ at t = λ same. o (place_same n s.letter s.position t.letter t.position h w vt same) in
    marks_other n (set z (at t) true) s ss h w v os ∙ get_or-set_other z (at t) (at s) true false ne

pub taken_breaks : (n : ℕ) (s : Symbol) (ss : List Symbol) → n ≤ max_inputs → AllIn n ss → (InRange n s.letter s.position → get_or (marks (replicate slots false) ss) (at s) false ≡ true)
    → InRange n s.letter s.position × OtherThan s ss → ⊥
taken_breaks n s ss h v taken (w, o) =
    false≢true (sym (get_or-replicate slots (at s) false false (place_low n s.letter s.position h w)) ∙ sym (marks_other n (replicate slots false) s ss h w v o) ∙ taken w)

-- a slot that is marked stays marked
marks_keep : (n : ℕ) (z : List Bool) (i : ℕ) (ss : List Symbol) → n ≤ max_inputs → length z ≡ slots → AllIn n ss → get_or z i false ≡ true → get_or (marks z ss) i false ≡ true
marks_keep n z i [] h l v e = e
marks_keep n z i (t ∷ ss) h l (vt, v) e =
    let low = place_low n t.letter t.position h vt in
    let inside : at t < length z = omega arith in
    let here : get_or (set z (at t) true) i false ≡ true =
    ⊎_elim
    (λ same. ap (λ (j : ℕ). get_or (set z (at t) true) j false) (eqb-true i (at t) same) ∙ get_or-set_same z (at t) true false inside)
    (λ other. get_or-set_other z (at t) i true false (eqb-false i (at t) other) ∙ e)
    (cases_Bool (eqb i (at t))) in
    marks_keep n (set z (at t) true) i ss h (length-set z (at t) true ∙ l) v here

-- no symbol has a position that they do not mark
marks_back : (n : ℕ) (z : List Bool) (s : Symbol) (ss : List Symbol) → n ≤ max_inputs → length z ≡ slots → AllIn n ss → get_or (marks z ss) (at s) false ≡ false → OtherThan s ss
marks_back n z s [] h l v e = tt
marks_back n z s (t ∷ ss) h l (vt, v) e =
    let low = place_low n t.letter t.position h vt in
    let inside : at t < length z = omega arith in
    let marked : get_or (marks (set z (at t) true) ss) (at t) false ≡ true =
    marks_keep n (set z (at t) true) (at t) ss h (length-set z (at t) true ∙ l) v (get_or-set_same z (at t) true false inside) in (
      (λ same. true≢false (sym marked ∙ ap (λ (i : ℕ). get_or (marks (set z (at t) true) ss) i false) (same_place s t same) ∙ e)),
      marks_back n (set z (at t) true) s ss h (length-set z (at t) true ∙ l) v e,
    )

pub breaks_taken : (n : ℕ) (s : Symbol) (ss : List Symbol) → n ≤ max_inputs → AllIn n ss → (InRange n s.letter s.position × OtherThan s ss → ⊥)
    → InRange n s.letter s.position → get_or (marks (replicate slots false) ss) (at s) false ≡ true
breaks_taken n s ss h v b w = true_from_ne_false _ (λ e. b (w, marks_back n (replicate slots false) s ss h refl v e))

-- The gate lines: what the reader accepts is what the grammar has, and the table holds its words. Assumes nothing.
use Rattle.std.proofs.Common.{◌≡◌, ℕ, zero, suc, ◌+◌, ◌-◌, ◌*◌, ◌<◌, ◌≤◌, min, max, List, [], ◌∷◌, ◌++◌, length, drop, set, replicate, Ok, Result, sym, refl, ap, ◌∙◌, subst, append_assoc, arith}
use Rattle.std.proofs.lemmas.List.{set_at, length-append}
use Rattle.std.proofs.lemmas.Bool.Decides.{nat_tests}
use Rattle.faults.specs.declared.text.TextFault.{TextFault}
use Rattle.faults.specs.declared.circuit.CircuitFault.{CircuitFault}
use Rattle.faults.specs.declared.circuit.CircuitFault.TheVariants.{Text}
use Rattle.text.specs.Lines.{numbers_at}
use Rattle.text.proofs.Answers.{ok_same, next_ok, of_three}
use Rattle.text.proofs.LineRun.{numbers_count}
use Rattle.aiger.specs.FaultLines.{located_at, located_in}
use Rattle.aiger.specs.Lines.{gate_in, gate_at, gate_fits, wrote, gates_at}
use Rattle.aiger.specs.Grammar.{NumberLine, GateLines, gate_words, gate_table}
use Rattle.aiger.specs.declared.gates.Gate.{Gate}
use Rattle.aiger.proofs.Carried.{keep_ok, told_ok}
use Rattle.aiger.proofs.NumberTexts.{numbers_read, numbers_back}

abbrev GateRead : Type 0
GateRead = Result (Gate × ℕ) TextFault

abbrev Gates : Type 0
Gates = List ℕ × Result ℕ CircuitFault

abbrev pub gate_of : ℕ → ℕ × ℕ → Gate
gate_of own g = record { own = own; left = g.0; right = g.1 }

abbrev literals : Gate → List ℕ
literals g = g.own ∷ g.left ∷ g.right ∷ []

pub gate_read : (bs : List ℕ) (p own : ℕ) (g : ℕ × ℕ) (rest : List ℕ) → NumberLine (own ∷ g.0 ∷ g.1 ∷ []) (drop p bs) rest
    → (q : ℕ) × (gate_at bs p ≡ Ok (gate_of own g, q)) × (drop q bs ≡ rest)
gate_read bs p own g rest line =
    let a = numbers_read (g.0 ∷ g.1 ∷ []) own bs p rest line in
    (a.0, grind (arith, a.1), a.2)

pub gate_back : (bs : List ℕ) (p : ℕ) (g : Gate × ℕ) → gate_at bs p ≡ Ok g → NumberLine (literals g.0) (drop p bs) (drop g.1 bs)
gate_back bs p g e =
    let v = next_ok (numbers_at bs p 2) _ g e in
    let all : literals (gate_in v.0.0) ≡ v.0.0 = of_three (λ l. literals (gate_in l) ≡ l) (λ a b c. refl) v.0.0 (numbers_count 2 bs p v.0 v.1) in
    subst (λ (g : Gate × ℕ). NumberLine (literals g.0) (drop p bs) (drop g.1 bs)) (ok_same (gate_in v.0.0, v.0.1) g v.2)
    (subst (λ (l : List ℕ). NumberLine l (drop p bs) (drop v.0.1 bs)) (sym all) (numbers_back 2 bs p v.0 v.1))

pub fits_read : (i k : ℕ) (g : ℕ × ℕ) → g.0 < 2 * (i + 1 + k) → g.1 < 2 * (i + 1 + k) → gate_fits (gate_of (2 * (i + 1 + k)) g) i k ≡ Ok tt
fits_read i k g l r = grind (arith, nat_tests)

pub fits_back : (g : Gate) (i k : ℕ) (u : Unit {0}) → gate_fits g i k ≡ Ok u → (g.own ≡ 2 * (i + 1 + k)) × (g.left < g.own) × (g.right < g.own)
fits_back g i k u e = (grind (arith, nat_tests), grind (arith, nat_tests), grind (arith, nat_tests))

-- the table after gates from gate k on
abbrev pub filled : List ℕ → ℕ → List (ℕ × ℕ) → List ℕ
filled t k [] = t
filled t k (g ∷ gs) = filled (wrote t k (gate_of 0 g)) (k + 1) gs

pub gates_read : (gs : List (ℕ × ℕ)) (i k p : ℕ) (bs t rest : List ℕ) → GateLines i k gs (drop p bs) rest
    → (q : ℕ) × (gates_at bs i k (length gs) p t ≡ (filled t k gs, Ok q)) × (drop q bs ≡ rest)
gates_read [] i k p bs t rest e = (p, refl, e)
gates_read (g ∷ gs) i k p bs t rest (mid, (l, r, line), more) =
    let own = 2 * (i + 1 + k) in
    let a = gate_read bs p own g mid line in
    let b = gates_read gs i (k + 1) a.0 bs (wrote t k (gate_of 0 g)) rest (subst (λ (l : List ℕ). GateLines i (k + 1) gs l rest) (sym a.2) more) in (
      b.0,
      grind (arith, a.1, fits_read i k g l r, b.1),
      b.2,
    )

pub gates_back : (n i k p q : ℕ) (bs t z : List ℕ) → ◌≡◌ {A = Gates} (gates_at bs i k n p t) (z, Ok q)
    → (gs : List (ℕ × ℕ)) × (length gs ≡ n) × GateLines i k gs (drop p bs) (drop q bs) × (z ≡ filled t k gs)
gates_back zero i k p q bs t z e = ([], refl, ap (λ (i : ℕ). drop i bs) (ok_same p q (ap (λ (w : Gates). w.1) e)), sym (ap (λ (w : Gates). w.0) e))
gates_back (suc n) i k p q bs t z e =
    let a = keep_ok Text t (located_in bs (gate_at bs p)) _ z q e in
    let g = a.0.0 in
    let b = keep_ok (λ e. e) t (gate_fits g i k) _ z q a.2 in
    let fits = fits_back g i k b.0 b.1 in
    let line = subst (λ (own : ℕ). NumberLine (own ∷ g.left ∷ g.right ∷ []) (drop p bs) (drop a.0.1 bs)) fits.0 (gate_back bs p a.0 (told_ok (located_at bs) _ _ a.1)) in
    let more = gates_back n i (k + 1) a.0.1 q bs (wrote t k g) z b.2 in (
      (g.left, g.right) ∷ more.0,
      ap suc more.1,
      (drop a.0.1 bs, (omega (arith, fits.0, fits.1), omega (arith, fits.0, fits.2), line), more.2),
      more.3,
    )

-- the words of the table

wrote_end : (done rest : List ℕ) (k a b : ℕ) → length done ≡ 2 * k → set (set (done ++ 0 ∷ 0 ∷ rest) (2 * k) a) (2 * k + 1) b ≡ (done ++ a ∷ b ∷ []) ++ rest
wrote_end done rest k a b e =
    ap (λ (l : List ℕ). set l (2 * k + 1) b) (set_at done 0 (0 ∷ rest) a (2 * k) e ∙ sym (append_assoc done (a ∷ []) (0 ∷ rest)))
    ∙ set_at (done ++ a ∷ []) 0 rest b (2 * k + 1) (omega (arith, length-append done (a ∷ [])))
    ∙ append_assoc done (a ∷ []) (b ∷ rest) ∙ sym (append_assoc done (a ∷ b ∷ []) rest)

filled_is : (gs : List (ℕ × ℕ)) (done : List ℕ) (k m : ℕ) → length done ≡ 2 * k → 2 * length gs ≤ m
    → filled (done ++ replicate m 0) k gs ≡ done ++ (gate_words gs ++ replicate (m - 2 * length gs) 0)
filled_is [] done k m e h = let same : m ≡ m - 2 * 0 = omega arith in ap (λ (n : ℕ). done ++ replicate n 0) same
filled_is (g ∷ gs) done k zero e h = absurd (omega arith)
filled_is (g ∷ gs) done k (suc zero) e h = absurd (omega arith)
filled_is (g ∷ gs) done k (suc (suc m)) e h =
    let a = max g.0 g.1 in
    let b = min g.0 g.1 in
    let same : m - 2 * length gs ≡ suc (suc m) - 2 * suc (length gs) = omega arith in
    ap (λ (t : List ℕ). filled t (k + 1) gs) (wrote_end done (replicate m 0) k a b e)
    ∙ filled_is gs (done ++ a ∷ b ∷ []) (k + 1) m (omega (arith, length-append done (a ∷ b ∷ []))) (omega arith)
    ∙ append_assoc done (a ∷ b ∷ []) (gate_words gs ++ replicate (m - 2 * length gs) 0)
    ∙ ap (λ (n : ℕ). done ++ (a ∷ b ∷ (gate_words gs ++ replicate n 0))) same

pub table_is : (gs : List (ℕ × ℕ)) (n : ℕ) → 2 * length gs ≤ n → filled (replicate n 0) 0 gs ≡ gate_table n gs
table_is gs n h = filled_is gs [] 0 n refl h

-- The symbol machine accepts symbol lines of the grammar up to the end, and refuses the position that is too large or taken, or
-- the line that is malformed, after them. Assumes nothing.
use Rattle.std.proofs.Common.{◌≡◌, ℕ, zero, suc, ◌+◌, ◌-◌, ◌<◌, ◌≤◌, Bool, true, false, ltb, leb, List, [], ◌∷◌, ◌++◌, length, get_or, drop, set, replicate, Ok, Err, Result, sym, refl, ap, ◌∙◌, subst, inl, inr, ◌⊎◌, ⊎_elim, arith}
use Rattle.std.proofs.lemmas.List.{drop_all, length-append, length-drop}
use Rattle.std.proofs.lemmas.Bool.Decides.{nat_tests}
use Rattle.std.proofs.lemmas.Bool.{cond-true, cond-false, cases_Bool, lt-ltb, le-leb, leb-true, leb-false, and_from, false≢true}
use Rattle.faults.specs.declared.text.TextFault.{TextFault}
use Rattle.text.specs.declared.classes.Class.TheVariants.{Digit, Newline}
use Rattle.text.specs.Classes.{class_of, is}
use Rattle.text.specs.Numbers.{number_at}
use Rattle.text.specs.Runs.{next}
use Rattle.text.proofs.Bytes.{newline_byte, digit_class}
use Rattle.aiger.specs.Symbols.{max_name, nameable, slots, moved, placed, named, step_by, step_of, free, is_over, first}
use Rattle.aiger.specs.Grammar.{Numeral, Symbol, letter_byte, InRange, NameBytes, SymbolForm, SymbolLines, Ending}
use Rattle.aiger.specs.declared.states.Letter.{Letter}
use Rattle.aiger.specs.declared.states.Letter.TheVariants.{Input, Output}
use Rattle.aiger.specs.declared.states.State.{State}
use Rattle.aiger.specs.declared.states.State.TheVariants.{Start, Position, Gap, Name, Comment, Done}
use Rattle.aiger.specs.declared.states.SymbolFault.{SymbolFault}
use Rattle.aiger.specs.declared.states.SymbolFault.TheVariants.{NoSlot}
use Rattle.aiger.specs.declared.symbols.SymbolMachine.{SymbolMachine}
use Rattle.aiger.proofs.NumberTexts.{number_read, first_of, one_on}
use Rattle.text.proofs.Runs.{past_end}
use Rattle.aiger.proofs.SymbolForms.{Lost}
use Rattle.aiger.proofs.SymbolsLost.{start_ends, lost_read}
use Rattle.aiger.proofs.SymbolSteps.{Step, going, ran, onward}
use Rattle.aiger.proofs.SymbolTexts.{Verdict, Accepted, Refused, Misread, answer, Accepts, place, Free, marks, Taken, Last, Astray, Lines, After, Well, ended, accepted, slot_within, slot_cases}

abbrev pub mk : State → ℕ → ℕ → List Bool → SymbolMachine
mk s p n z = record { state = s; at = p; inputs = n; seen = z }

-- single steps

-- a step that goes well, and then the others
step_read : (f : ℕ) (bs : List ℕ) (m t : SymbolMachine) (a : Result (Unit {0}) SymbolFault) → going bs m ≡ true → step_of bs m ≡ Ok t → ran f bs t ≡ a → ran (suc f) bs m ≡ a
step_read f bs m t a go e r = cond-true (going bs m) _ _ go ∙ ap (λ (s : Step). next s (ran f bs)) e ∙ r

-- a step that is refused
step_lost : (f : ℕ) (bs : List ℕ) (m : SymbolMachine) (e : SymbolFault) → going bs m ≡ true → step_of bs m ≡ Err e → ran (suc f) bs m ≡ Err e
step_lost f bs m e go h = cond-true (going bs m) _ _ go ∙ ap (λ (s : Step). next s (ran f bs)) h

-- the steps left after a step
less : (f : ℕ) (bs : List ℕ) (m t : SymbolMachine) → length bs - m.at ≤ suc f → m.at < length bs → step_of bs m ≡ Ok t → length bs - t.at ≤ f
less f bs m t h i e = let o = onward bs m t e in omega (arith, o.0)

inside_of : (bs : List ℕ) (p x : ℕ) (rest : List ℕ) → drop p bs ≡ x ∷ rest → ltb p (length bs) ≡ true
inside_of bs p x rest e = lt-ltb _ _ (first_of bs p x rest e).0

-- a step at a byte x
at_byte : (bs : List ℕ) (m : SymbolMachine) (x : ℕ) (rest : List ℕ) → drop m.at bs ≡ x ∷ rest → step_of bs m ≡ step_by bs m m.state (class_of x) x
at_byte bs m x rest e =
    cond-true (ltb m.at (length bs)) _ _ (inside_of bs m.at x rest e) ∙ ap (λ (b : ℕ). step_by bs m m.state (class_of b) b) (first_of bs m.at x rest e).1

not_nil : (bs ds rest : List ℕ) (p x : ℕ) → length bs - p ≤ 0 → drop p bs ≡ ds ++ x ∷ rest → ⊥
not_nil bs ds rest p x h e =
    let long : 0 ≡ length (ds ++ x ∷ rest) = ap length (sym (drop_all p bs (omega arith)) ∙ e) in
    omega (arith, length-append ds (x ∷ rest))

-- one text stands at one place
one_place : (bs : List ℕ) (p q x : ℕ) (rest : List ℕ) → drop p bs ≡ x ∷ rest → drop q bs ≡ x ∷ rest → p ≡ q
one_place bs p q x rest e d =
    let a = (first_of bs p x rest e).0 in
    let b = (first_of bs q x rest d).0 in
    let c : length bs - p ≡ length bs - q = sym (length-drop p bs) ∙ ap length (e ∙ sym d) ∙ length-drop q bs in
    omega arith

-- a name's byte is no newline
pub name_byte : (b : ℕ) → nameable (class_of b) ≡ true → is Newline (class_of b) ≡ false
name_byte b nb = ⊎_elim (λ t. let n = newline_byte b t in absurd (false≢true (sym (ap (λ (b : ℕ). nameable (class_of b)) n) ∙ nb))) (λ f. f) (cases_Bool (is Newline (class_of b)))

named_step : (bs : List ℕ) (m : SymbolMachine) (l : Letter) (p k b : ℕ) → nameable (class_of b) ≡ true → k < max_name → step_by bs m (Name l p k) (class_of b) b ≡ Ok (moved m (Name l p (k + 1)))
named_step bs m l p k b nb h = let n = name_byte b nb in grind (arith, nat_tests, n, nb)

line_step : (m : SymbolMachine) (l : Letter) (p k : ℕ) → 1 ≤ k → InRange m.inputs l p → get_or m.seen (place l p) false ≡ false → named m l p k ≡ Ok (ended m (place l p))
line_step m l p k some w new = let s = slot_within m.inputs l p w in grind (arith, nat_tests, s)

place_step : (bs : List ℕ) (m : SymbolMachine) (l : Letter) (v q : ℕ) → number_at bs m.at ≡ Ok (v, q) → placed bs m l ≡ Ok (mk (Gap l v) q m.inputs m.seen)
place_step bs m l v q e = grind (arith, e)

line_wrong : (m : SymbolMachine) (l : Letter) (p k : ℕ) → 1 ≤ k → (InRange m.inputs l p → get_or m.seen (place l p) false ≡ true) → named m l p k ≡ Err (NoSlot m.at)
line_wrong m l p k some taken =
    ⊎_elim (λ none. grind (arith, nat_tests, none)) (λ w. let s = slot_within m.inputs l p w in let t = taken w in grind (arith, nat_tests, s, t)) (slot_cases m.inputs l p)

-- a numeral begins with a digit
numeral_first : (v : ℕ) (ds rest : List ℕ) → Numeral v ds → (d : ℕ) × (more : List ℕ) × (ds ++ rest ≡ d ∷ more) × (is Digit (class_of d) ≡ true)
numeral_first v [] rest n = absurd (omega (arith, n.some))
numeral_first v (d ∷ ds) rest n =
    let h = n.digit 0 (omega arith) in
    (d, ds ++ rest, refl, digit_class d ∙ and_from _ _ (le-leb 48 d h.0) (le-leb d 57 h.1))

-- whole lines

-- with an answer for a line that is malformed
module _ (bs : List ℕ) (v : Verdict) (strays : (f p n : ℕ) (z : List Bool) → length bs - p ≤ f → Astray bs v Start (drop p bs) → ran f bs (mk Start p n z) ≡ answer v) where
  abbrev Fore : ℕ → Type 0
  Fore f = (s : State) (p n : ℕ) (z : List Bool) → length bs - p ≤ f → Well bs v n z s (drop p bs) → ran f bs (mk s p n z) ≡ answer v

  module _ (f : ℕ) (ih : Fore f) where
    -- a step at the byte x that only moves the machine, and then the others
    move : (s t : State) (p n : ℕ) (z : List Bool) (x : ℕ) (rest : List ℕ) → length bs - p ≤ suc f → drop p bs ≡ x ∷ rest
        → going bs (mk s p n z) ≡ ltb p (length bs) → step_by bs (mk s p n z) s (class_of x) x ≡ Ok (mk t (p + 1) n z) → Well bs v n z t rest
        → ran (suc f) bs (mk s p n z) ≡ answer v
    move s t p n z x rest h e g k r =
        let m = mk s p n z in
        let st : step_of bs m ≡ Ok (mk t (p + 1) n z) = at_byte bs m x rest e ∙ k in
        step_read f bs m _ (answer v) (g ∙ inside_of bs p x rest e) st
        (ih t (p + 1) n z (less f bs m _ h (first_of bs p x rest e).0 st) (subst (Well bs v n z t) (sym (one_on bs p x rest e)) r))

    -- from the letter of a symbol line on
    fore_line : (p n : ℕ) (z : List Bool) (s : Symbol) (rest : List ℕ) → length bs - p ≤ suc f → SymbolForm s (drop p bs) rest → After bs v n z s.letter s.position rest
        → ran (suc f) bs (mk Start p n z) ≡ answer v
    fore_line p n z s rest h form after =
        let ts = form.ds ++ 32 ∷ (s.name ++ 10 ∷ rest) in
        letter s.letter ts form.text (
          s.position,
          form.ds,
          s.name ++ 10 ∷ rest,
          form.position,
          refl,
          record { text = record { name = s.name; rest = rest; some = omega (arith, form.some); few = omega (arith, form.few); bytes = form.bytes; text = refl }; after = after },
        )
      where
        letter : (l : Letter) (ts : List ℕ) → drop p bs ≡ letter_byte l ∷ ts → Well bs v n z (Position l) ts → ran (suc f) bs (mk Start p n z) ≡ answer v
        letter Input ts e r = move Start (Position Input) p n z 105 ts h e refl refl r
        letter Output ts e r = move Start (Position Output) p n z 111 ts h e refl refl r

    -- from the end of the lines on
    fore_ending : (p n : ℕ) (z : List Bool) → length bs - p ≤ suc f → Accepts v → Ending (drop p bs) → ran (suc f) bs (mk Start p n z) ≡ answer v
    fore_ending p n z h good (inl end) =
        let long : length bs - p ≡ 0 = sym (length-drop p bs) ∙ ap length end in
        cond-false (going bs (mk Start p n z)) _ _ (past_end is_over (λ m. m.at) bs (mk Start p n z) (omega arith)) ∙ accepted v good
    fore_ending p n z h good (inr (more, end)) = move Start Comment p n z 99 (10 ∷ more) h end refl refl (good, more, refl)

    -- from the start of a line on
    fore_start : (p n : ℕ) (z : List Bool) (ss : List Symbol) (here : List ℕ) → length bs - p ≤ suc f → SymbolLines n ss (drop p bs) here → Free z ss
        → (Accepts v × Ending here) ⊎ (Last bs v n (marks z ss) here ⊎ Astray bs v Start here) → ran (suc f) bs (mk Start p n z) ≡ answer v
    fore_start p n z [] here h e unmarked (inl (good, end)) = fore_ending p n z h good (subst Ending (sym e) end)
    fore_start p n z [] here h e unmarked (inr (inr a)) = strays (suc f) p n z h (subst (Astray bs v Start) (sym e) a)
    fore_start p n z [] here h e unmarked (inr (inl last)) = fore_line p n z last.s last.rest h (subst (λ (ts : List ℕ). SymbolForm last.s ts last.rest) (sym e) last.form) (inr last.taken)
    fore_start p n z (s ∷ ss) here h (mid, line, lines) (new, others) last =
        fore_line p n z s mid h line.1
        (inl (line.0, new, record { symbols = ss; here = here; lines = lines; free = others; last = last }))

    fore_end : (l : Letter) (o k p n : ℕ) (z : List Bool) (rest : List ℕ) → length bs - p ≤ suc f → drop p bs ≡ 10 ∷ rest → 1 ≤ k → After bs v n z l o rest → ran (suc f) bs (mk (Name l o k) p n z) ≡ answer v
    fore_end l o k p n z rest h e some (inl (range, free, more)) =
        let m = mk (Name l o k) p n z in
        let s : step_of bs m ≡ Ok (ended m (place l o)) = at_byte bs m 10 rest e ∙ line_step m l o k some range free in
        step_read f bs m _ (answer v) (inside_of bs p 10 rest e) s
        (ih Start (p + 1) n (set z (place l o) true) (less f bs m _ h (first_of bs p 10 rest e).0 s) (subst (Lines bs v n (set z (place l o) true)) (sym (one_on bs p 10 rest e)) more))
    fore_end l o k p n z rest h e some (inr taken) =
        let m = mk (Name l o k) p n z in
        let t = taken_here v taken in
        step_lost f bs m (NoSlot p) (inside_of bs p 10 rest e) (at_byte bs m 10 rest e ∙ line_wrong m l o k some t.0) ∙ t.1
      where
        taken_here : (v : Verdict) → Taken bs v n z l o rest → (InRange n l o → get_or z (place l o) false ≡ true) × (◌≡◌ {A = Result (Unit {0}) SymbolFault} (Err (NoSlot p)) (answer v))
        taken_here Accepted t = absurd t
        taken_here (Misread d) t = absurd t
        taken_here (Refused q) (t, end) = (t, (λ i. Err (NoSlot (one_place bs p q 10 rest e end i))))

    fore_name : (l : Letter) (o k p n : ℕ) (z : List Bool) (name rest : List ℕ) → length bs - p ≤ suc f → drop p bs ≡ name ++ 10 ∷ rest → 1 ≤ k + length name → k + length name ≤ max_name → NameBytes name
        → After bs v n z l o rest → ran (suc f) bs (mk (Name l o k) p n z) ≡ answer v
    fore_name l o k p n z [] rest h e some few bytes after = fore_end l o k p n z rest h e (omega arith) after
    fore_name l o k p n z (b ∷ name) rest h e some few (nb, bytes) after =
        move (Name l o k) (Name l o (k + 1)) p n z b (name ++ 10 ∷ rest) h e refl (named_step bs (mk (Name l o k) p n z) l o k b nb (omega arith))
        (record { text = record { name = name; rest = rest; some = omega arith; few = omega arith; bytes = bytes; text = refl }; after = after })

    fore_position : (l : Letter) (p n : ℕ) (z : List Bool) → length bs - p ≤ suc f → Well bs v n z (Position l) (drop p bs) → ran (suc f) bs (mk (Position l) p n z) ≡ answer v
    fore_position l p n z h (o, ds, rest, num, e, nm) =
        let m = mk (Position l) p n z in
        let d = numeral_first o ds (32 ∷ rest) num in
        let a = number_read bs p o 32 ds rest num refl e in
        let s : step_of bs m ≡ Ok (mk (Gap l o) a.0 n z) = at_byte bs m d.0 d.1 (e ∙ d.2) ∙ cond-true _ _ _ d.3 ∙ place_step bs m l o a.0 a.1 in
        step_read f bs m _ (answer v) (inside_of bs p d.0 d.1 (e ∙ d.2)) s
        (ih (Gap l o) a.0 n z (less f bs m _ h (first_of bs p d.0 d.1 (e ∙ d.2)).0 s) (rest, a.2, nm))

  -- no line stands past the end
  fore_past : (p n : ℕ) (z : List Bool) → length bs - p ≤ 0 → (ss : List Symbol) (here : List ℕ) → SymbolLines n ss (drop p bs) here
      → (Accepts v × Ending here) ⊎ (Last bs v n (marks z ss) here ⊎ Astray bs v Start here) → Ok tt ≡ answer v
  fore_past p n z h [] here e (inl (good, end)) = accepted v good
  fore_past p n z h [] here e (inr (inr a)) = strays 0 p n z h (subst (Astray bs v Start) (sym e) a)
  fore_past p n z h [] here e (inr (inl last)) = absurd (not_nil bs [] _ p _ h (e ∙ last.form.text))
  fore_past p n z h (s ∷ ss) here (mid, line, lines) last = absurd (not_nil bs [] _ p _ h line.1.text)

  fore : (f : ℕ) → Fore f
  fore zero Start p n z h r = fore_past p n z h r.symbols r.here r.lines r.last
  fore zero (Position l) p n z h (o, ds, rest, num, e, nm) = absurd (not_nil bs ds rest p 32 h e)
  fore zero (Gap l o) p n z h (rest, e, nm) = absurd (not_nil bs [] rest p 32 h e)
  fore zero (Name l o k) p n z h r = absurd (not_nil bs r.text.name r.text.rest p 10 h r.text.text)
  fore zero Comment p n z h (good, rest, e) = absurd (not_nil bs [] rest p 10 h e)
  fore zero Done p n z h r = accepted v r
  fore (suc f) Start p n z h r = fore_start f (fore f) p n z r.symbols r.here h r.lines r.free r.last
  fore (suc f) (Position l) p n z h r = fore_position f (fore f) l p n z h r
  fore (suc f) (Gap l o) p n z h (rest, e, nm) = move f (fore f) (Gap l o) (Name l o 0) p n z 32 rest h e refl refl nm
  fore (suc f) (Name l o k) p n z h r = let t = r.text in fore_name f (fore f) l o k p n z t.name t.rest h t.text t.some t.few t.bytes r.after
  fore (suc f) Comment p n z h (good, rest, e) = move f (fore f) Comment Done p n z 10 rest h e refl refl good
  fore (suc f) Done p n z h r = accepted v r

  pub symbols_read : (p n : ℕ) → Lines bs v n (replicate slots false) (drop p bs) → ran (length bs) bs (first p n) ≡ answer v
  symbols_read p n r = fore (length bs) Start p n (replicate slots false) (omega arith) r

-- the answer for a line that is malformed
pub strays_read : (bs : List ℕ) (e : TextFault) (f p n : ℕ) (z : List Bool) → length bs - p ≤ f → Astray bs (Misread e) Start (drop p bs) → ran f bs (mk Start p n z) ≡ answer (Misread e)
strays_read bs e f p n z h a =
    ⊎_elim
    (λ t. absurd (start_ends bs e (subst (λ (ts : List ℕ). Lost bs Start ts e) (drop_all p bs (leb-true _ _ t)) a)))
    (λ late. let low = leb-false _ _ late in lost_read bs e f (mk Start p n z) h (omega arith) tt a)
    (cases_Bool (leb (length bs) p))

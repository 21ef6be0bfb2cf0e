-- What stands where the symbol machine accepts the lines, refuses a position or finds a line malformed: lines of the grammar, and
-- then the end, or that line. Assumes nothing.
use Rattle.std.proofs.Common.{◌≡◌, ℕ, zero, suc, ◌+◌, ◌-◌, ◌<◌, ◌≤◌, Bool, true, false, cond, eqb, ltb, leb, List, [], ◌∷◌, ◌++◌, length, get_or, drop, set, replicate, Some, None, Ok, Err, Option, Result, slice_get, sym, refl, ap, ◌∙◌, subst, inl, inr, ◌⊎◌, ⊎_elim, arith}
use Rattle.std.specs.Prelude.{MatchResult}
use Rattle.std.proofs.lemmas.List.{drop_more, drop_all}
use Rattle.std.proofs.lemmas.Bool.{cond-true, cond-false, cond_both, cases_Bool, eqb-true, eqb-false, ltb-false, leb-true, leb-false, false≢true, true≢false, lt-ltb}
use Rattle.faults.specs.declared.text.TextFault.{TextFault}
use Rattle.faults.specs.declared.text.TextFault.TheVariants.{Misfit}
use Rattle.text.specs.declared.classes.Class.TheVariants.{Digit, Blank, Newline, Letter as SmallLetter}
use Rattle.text.specs.Classes.{class_of, is}
use Rattle.text.specs.Numbers.{number_at}
use Rattle.text.specs.Runs.{next}
use Rattle.text.proofs.Bytes.{newline_byte, blank_byte, digit_class}
use Rattle.text.proofs.Runs.{past_end, inside}
use Rattle.aiger.specs.Symbols.{max_name, nameable, slots, slot_of, starts, placed, longer, marked, named, step_by, step_of, free, is_done, is_over, end_of, first}
use Rattle.aiger.specs.Lines.{up}
use Rattle.aiger.specs.Grammar.{Symbol, letter_byte, InRange, SymbolForm}
use Rattle.aiger.specs.Malformed.{Byte, NameRest}
use Rattle.aiger.specs.declared.states.Letter.{Letter}
use Rattle.aiger.specs.declared.states.Letter.TheVariants.{Input, Output}
use Rattle.aiger.specs.declared.states.State.{State}
use Rattle.aiger.specs.declared.states.State.TheVariants.{Start, Position, Gap, Name, Comment, Done}
use Rattle.aiger.specs.declared.states.SymbolFault.{SymbolFault}
use Rattle.aiger.specs.declared.states.SymbolFault.TheVariants.{Text, NoSlot}
use Rattle.aiger.specs.declared.symbols.SymbolMachine.{SymbolMachine}
use Rattle.aiger.proofs.NumberTexts.{number_back}
use Rattle.aiger.proofs.Pieces.{byte_on, number_stuck, number_on}
use Rattle.aiger.proofs.LineFaults.{behind}
use Rattle.aiger.proofs.SymbolForms.{Short, going_some, Allowed, no_start, Lost, lost_here, lost_letter, lost_comment, lost_name}
use Rattle.aiger.proofs.SymbolSteps.{Step, going, ran, onward}
use Rattle.aiger.proofs.SymbolTexts.{Verdict, Accepted, Refused, Misread, answer, place, Taken, Astray, Lines, After, Rest, ended, accepts, slot_back, slot_none}

abbrev Answer : Type 0
Answer = Result (Unit {0}) SymbolFault

-- what each verdict says of a fault

astray : (bs : List ℕ) (v : Verdict) (s : State) (ts : List ℕ) (e : TextFault) → Lost bs s ts e → ◌≡◌ {A = Answer} (Err (Text e)) (answer v) → Astray bs v s ts
astray bs Accepted s ts e l h = cc
astray bs (Refused q) s ts e l h = cc
astray bs (Misread d) s ts e l h = let same : e ≡ d = cc h in subst (Lost bs s ts) same l

astray_on : (bs : List ℕ) (v : Verdict) (s t : State) (ts us : List ℕ) → ((e : TextFault) → Lost bs t us e → Lost bs s ts e) → Astray bs v t us → Astray bs v s ts
astray_on bs Accepted s t ts us f a = a
astray_on bs (Refused q) s t ts us f a = a
astray_on bs (Misread e) s t ts us f a = f e a

-- the machine refuses a position where its line has its newline
taken_at : (bs : List ℕ) (v : Verdict) (n : ℕ) (z : List Bool) (l : Letter) (o p : ℕ) (rest : List ℕ) → (InRange n l o → get_or z (place l o) false ≡ true) → drop p bs ≡ 10 ∷ rest
    → ◌≡◌ {A = Answer} (Err (NoSlot p)) (answer v) → Taken bs v n z l o rest
taken_at bs Accepted n z l o p rest taken end h = cc
taken_at bs (Misread e) n z l o p rest taken end h = cc
taken_at bs (Refused q) n z l o p rest taken end h = let same : q ≡ p = cc h in (taken, ap (λ (i : ℕ). drop i bs) same ∙ end)

module _ (bs : List ℕ) (v : Verdict) where
  abbrev RestAt : SymbolMachine → Type 0
  RestAt t = Rest bs v t.inputs t.seen t.state (drop t.at bs)

  -- R holds where a step goes well and what may stand stands from the next machine on, and where the step gives the answer
  abbrev Back : Type 0 → Step → Type 0
  Back R r = MatchResult r (λ t. RestAt t → R) (λ e. ◌≡◌ {A = Answer} (Err e) (answer v) → R)

  up_back : (R : Type 0) (r : Result (ℕ × ℕ) TextFault) (k : ℕ × ℕ → Step) → ((a : ℕ × ℕ) → r ≡ Ok a → Back R (k a))
      → ((e : TextFault) → r ≡ Err e → ◌≡◌ {A = Answer} (Err (Text e)) (answer v) → R) → Back R (up Text r k)
  up_back R (Ok a) k g f = g a refl
  up_back R (Err e) k g f = f e refl

  stray : (n : ℕ) (z : List Bool) (ts : List ℕ) → Astray bs v Start ts → Lines bs v n z ts
  stray n z ts a = record { symbols = []; here = ts; lines = refl; free = tt; last = inr (inr a) }

  -- a symbol line, from its letter on
  open_line : (n : ℕ) (z : List Bool) (l : Letter) (ts : List ℕ) → Rest bs v n z (Position l) ts → Lines bs v n z (letter_byte l ∷ ts)
  open_line n z l ts (inr a) = stray n z (letter_byte l ∷ ts) (astray_on bs v Start (Position l) (letter_byte l ∷ ts) ts (lost_letter bs l ts) a)
  open_line n z l ts (inl (p, ds, rest, num, e, nm)) =
      let t = nm.text in
      let s : Symbol = record { letter = l; position = p; name = t.name } in
      let form : SymbolForm s (letter_byte l ∷ ts) t.rest = record {
        ds = ds;
        position = num;
        some = omega (arith, t.some);
        few = omega (arith, t.few);
        bytes = t.bytes;
        text = ap (λ (x : List ℕ). letter_byte l ∷ x) (e ∙ ap (λ (x : List ℕ). ds ++ 32 ∷ x) t.text);
      } in
      ⊎_elim
      (λ a. record { symbols = s ∷ a.2.symbols; here = a.2.here; lines = (t.rest, (a.0, form), a.2.lines); free = (a.1, a.2.free); last = a.2.last })
      (λ taken. record {
        symbols = [];
        here = letter_byte l ∷ ts;
        lines = refl;
        free = tt;
        last = inr (inl (record { s = s; rest = t.rest; form = form; taken = taken }));
      })
      nm.after

  module _ (m : SymbolMachine) (low : m.at < length bs) where
    abbrev rest : List ℕ
    rest = drop (m.at + 1) bs

    -- the byte where the machine stands
    abbrev At : ℕ → Type 0
    At b = drop m.at bs ≡ b ∷ rest

    -- a byte that may not stand there
    off_back : (s : State) (b : ℕ) → At b → Short s → (Allowed s (Some b) → ⊥) → ◌≡◌ {A = Answer} (Err (Text (Misfit m.at))) (answer v) → Astray bs v s (drop m.at bs)
    off_back s b d short other =
        astray bs v s (drop m.at bs) (Misfit m.at) (lost_here bs s m.at (omega arith) short (λ a. other (subst (λ (x : List ℕ). Allowed s (slice_get x 0)) d a)))

    text_of : (b x : ℕ) → At b → b ≡ x → drop m.at bs ≡ x ∷ rest
    text_of b x d e = d ∙ ap (λ (b : ℕ). b ∷ rest) e

    -- the start of a line

    letter_back : (l : Letter) (b : ℕ) → At b → b ≡ letter_byte l → Rest bs v m.inputs m.seen (Position l) rest → Lines bs v m.inputs m.seen (drop m.at bs)
    letter_back l b d e r = subst (Lines bs v m.inputs m.seen) (sym (text_of b (letter_byte l) d e)) (open_line m.inputs m.seen l rest r)

    comment_back : (b : ℕ) → At b → b ≡ 99 → Rest bs v m.inputs m.seen Comment rest → Lines bs v m.inputs m.seen (drop m.at bs)
    comment_back b d e (inl (good, more, end)) =
        record { symbols = []; here = drop m.at bs; lines = refl; free = tt; last = inl (good, inr (more, text_of b 99 d e ∙ ap (λ (x : List ℕ). 99 ∷ x) end)) }
    comment_back b d e (inr a) =
        stray m.inputs m.seen (drop m.at bs) (subst (Astray bs v Start) (sym (text_of b 99 d e)) (astray_on bs v Start Comment (99 ∷ rest) rest (lost_comment bs rest) a))

    start_back : (b : ℕ) → At b → Back (Lines bs v m.inputs m.seen (drop m.at bs)) (starts m b)
    start_back b d =
        let R : Type 0 = Lines bs v m.inputs m.seen (drop m.at bs) in
        cond_both (eqb b 105) _ _ (Back R) (λ i. letter_back Input b d (eqb-true b 105 i)) (λ i.
        cond_both (eqb b 111) _ _ (Back R) (λ o. letter_back Output b d (eqb-true b 111 o)) (λ o.
        cond_both (eqb b 99) _ _ (Back R) (λ c. comment_back b d (eqb-true b 99 c))
        (λ c e. stray m.inputs m.seen (drop m.at bs) (off_back Start b d tt (no_start b (eqb-false b 105 i) (eqb-false b 111 o) (eqb-false b 99 c)) e))))

    -- a position

    place_back : (l : Letter) → Back (Rest bs v m.inputs m.seen (Position l) (drop m.at bs)) (placed bs m l)
    place_back l =
        let More : List ℕ → Type 0 = Byte 32 (NameRest 0) in
        up_back (Rest bs v m.inputs m.seen (Position l) (drop m.at bs)) (number_at bs m.at) _
        (λ p e r. ⊎_elim
        (λ r. let a = number_back bs m.at p e in inl (p.0, a.0, r.0, a.1, a.2 ∙ ap (λ (x : List ℕ). a.0 ++ x) r.1, r.2))
        (λ a. inr (astray_on bs v (Position l) (Gap l p.0) (drop m.at bs) (drop p.1 bs) (λ f. number_on More More bs m.at p f (behind 32 (NameRest 0) (NameRest 0) refl) e) a))
        r)
        (λ e f h. inr (astray bs v (Position l) (drop m.at bs) e (number_stuck More More bs m.at e (omega arith) (going_some (Gap l 0) tt) f) h))

    -- a name

    name_back : (l : Letter) (p k b : ℕ) → At b → k ≤ max_name → is Newline (class_of b) ≡ false → nameable (class_of b) ≡ true
        → Back (Rest bs v m.inputs m.seen (Name l p k) (drop m.at bs)) (longer m l p k)
    name_back l p k b d short other nb =
        let R : Type 0 = Rest bs v m.inputs m.seen (Name l p k) (drop m.at bs) in
        cond_both (leb max_name k) _ _ (Back R)
        (λ full e. inr (off_back (Name l p k) b d short
        (⊎_elim (λ a. false≢true (sym other ∙ ap (λ (b : ℕ). is Newline (class_of b)) a.0)) (λ a. let more = leb-true max_name k full in absurd (omega (arith, a.1)))) e))
        (λ h r.
        let low : k < max_name = leb-false max_name k h in
        ⊎_elim
        (λ r. let t = r.text in inl (record {
          text = record { name = b ∷ t.name; rest = t.rest; some = omega arith; few = omega (arith, t.few); bytes = (nb, t.bytes); text = d ∙ ap (λ (x : List ℕ). b ∷ x) t.text };
          after = r.after;
        }))
        (λ a. inr (subst (Astray bs v (Name l p k)) (sym d) (astray_on bs v (Name l p k) (Name l p (k + 1)) (b ∷ rest) rest (λ e. lost_name bs l p k b rest e nb) a)))
        r)

    mark_back : (R : Type 0) (o : Option ℕ) → (◌≡◌ {A = Answer} (Err (NoSlot m.at)) (answer v) → (o ≡ None) ⊎ ((s : ℕ) × (o ≡ Some s) × (get_or m.seen s false ≡ true)) → R)
        → ((s : ℕ) → o ≡ Some s → get_or m.seen s false ≡ false → RestAt (ended m s) → R) → Back R (marked m (free m.seen o))
    mark_back R None f g = λ e. f e (inl refl)
    mark_back R (Some s) f g =
        cond_both (get_or m.seen s false) None (Some s) (λ o. Back R (marked m o)) (λ t e. f e (inr (s, refl, t))) (λ t. g s refl t)

    -- no position in range has a slot that is not marked
    no_slot : (l : Letter) (p : ℕ) → (slot_of l p m.inputs ≡ None) ⊎ ((s : ℕ) × (slot_of l p m.inputs ≡ Some s) × (get_or m.seen s false ≡ true))
        → InRange m.inputs l p → get_or m.seen (place l p) false ≡ true
    no_slot l p (inl none) w = absurd (slot_none m.inputs l p none w)
    no_slot l p (inr (s, es, t)) w = subst (λ (s : ℕ). get_or m.seen s false ≡ true) (slot_back m.inputs l p s es).1 t

    line_back : (l : Letter) (p k b : ℕ) → At b → k ≤ max_name → b ≡ 10 → Back (Rest bs v m.inputs m.seen (Name l p k) (drop m.at bs)) (named m l p k)
    line_back l p k b d short nb =
        let R : Type 0 = Rest bs v m.inputs m.seen (Name l p k) (drop m.at bs) in
        let text = text_of b 10 d nb in
        cond_both (eqb k 0) _ _ (Back R)
        (λ z e. inr (off_back (Name l p k) b d short
        (⊎_elim (λ a. let none = eqb-true k 0 z in absurd (omega (arith, a.1))) (λ a. true≢false (sym a.0 ∙ ap (λ (b : ℕ). nameable (class_of b)) nb))) e))
        (λ z.
        let some : k ≡ 0 → ⊥ = eqb-false k 0 z in
        let whole : After bs v m.inputs m.seen l p rest → R =
        λ a. inl (record { text = record { name = []; rest = rest; some = omega arith; few = omega arith; bytes = tt; text = text }; after = a }) in
        mark_back R (slot_of l p m.inputs)
        (λ e taken. whole (inr (taken_at bs v m.inputs m.seen l p m.at rest (no_slot l p taken) text e)))
        (λ s es e r.
        let w = slot_back m.inputs l p s es in
        whole (inl (w.0, subst (λ (s : ℕ). get_or m.seen s false ≡ false) w.1 e, subst (λ (s : ℕ). Lines bs v m.inputs (set m.seen s true) rest) w.1 r))))

    -- one step back
    step_back : (s : State) (b : ℕ) → At b → Short s → is_done s ≡ false → Back (Rest bs v m.inputs m.seen s (drop m.at bs)) (step_by bs m s (class_of b) b)
    step_back Start b d short on =
        cond_both (is SmallLetter (class_of b)) _ _ (Back (Rest bs v m.inputs m.seen Start (drop m.at bs))) (λ _. start_back b d)
        (λ f e.
        let other : (x : ℕ) → is SmallLetter (class_of x) ≡ true → b ≡ x → ⊥ = λ x t same. false≢true (sym f ∙ ap (λ (b : ℕ). is SmallLetter (class_of b)) same ∙ t) in
        stray m.inputs m.seen (drop m.at bs) (off_back Start b d tt (no_start b (other 105 refl) (other 111 refl) (other 99 refl)) e))
    step_back (Position l) b d short on =
        cond_both (is Digit (class_of b)) _ _ (Back (Rest bs v m.inputs m.seen (Position l) (drop m.at bs))) (λ _. place_back l)
        (λ f e. inr (off_back (Position l) b d tt (λ a. false≢true (sym f ∙ digit_class b ∙ a)) e))
    step_back (Gap l p) b d short on =
        cond_both (is Blank (class_of b)) _ _ (Back (Rest bs v m.inputs m.seen (Gap l p) (drop m.at bs)))
        (λ t r.
        let text = text_of b 32 d (blank_byte b t) in
        ⊎_elim (λ nm. inl (rest, text, nm))
        (λ a. inr (subst (Astray bs v (Gap l p)) (sym text) (astray_on bs v (Gap l p) (Name l p 0) (32 ∷ rest) rest (byte_on 32 (NameRest 0) (NameRest 0) bs rest) a))) r)
        (λ f e. inr (off_back (Gap l p) b d tt (λ a. false≢true (sym f ∙ ap (λ (b : ℕ). is Blank (class_of b)) a)) e))
    step_back (Name l p k) b d short on =
        let B : Step → Type 0 = Back (Rest bs v m.inputs m.seen (Name l p k) (drop m.at bs)) in
        cond_both (is Newline (class_of b)) _ _ B (λ i. line_back l p k b d short (newline_byte b i))
        (λ n. cond_both (nameable (class_of b)) _ _ B (λ nb. name_back l p k b d short n nb)
        (λ f e. inr (off_back (Name l p k) b d short
        (⊎_elim (λ a. false≢true (sym n ∙ ap (λ (b : ℕ). is Newline (class_of b)) a.0)) (λ a. false≢true (sym f ∙ a.0))) e)))
    step_back Comment b d short on =
        cond_both (is Newline (class_of b)) _ _ (Back (Rest bs v m.inputs m.seen Comment (drop m.at bs)))
        (λ t r. inl (r, rest, text_of b 10 d (newline_byte b t)))
        (λ f e. inr (off_back Comment b d tt (λ a. false≢true (sym f ∙ ap (λ (b : ℕ). is Newline (class_of b)) a)) e))
    step_back Done b d short on = absurd (true≢false on)

  -- the file ends
  end_back : (s : State) (p : ℕ) → p ≤ length bs → ltb p (length bs) ≡ false → Short s → (Allowed s None → ⊥) → ◌≡◌ {A = Answer} (Err (Text (Misfit p))) (answer v) → Astray bs v s (drop p bs)
  end_back s p h stop short other =
      astray bs v s (drop p bs) (Misfit p) (lost_here bs s p h short (λ a. other (subst (λ (x : List ℕ). Allowed s (slice_get x 0)) (drop_all p bs (ltb-false _ _ stop)) a)))

  stop_back : (p n : ℕ) (z : List Bool) (s : State) → p ≤ length bs → Short s → cond (is_done s) false (ltb p (length bs)) ≡ false → end_of (record { state = s; at = p; inputs = n; seen = z }) ≡ answer v
      → Rest bs v n z s (drop p bs)
  stop_back p n z Start low short h e = record { symbols = []; here = drop p bs; lines = refl; free = tt; last = inl (accepts v tt e, inl (drop_all p bs (ltb-false _ _ h))) }
  stop_back p n z (Position l) low short h e = inr (end_back (Position l) p low h short (λ a. a) e)
  stop_back p n z (Gap l o) low short h e = inr (end_back (Gap l o) p low h short (λ a. a) e)
  stop_back p n z (Name l o k) low short h e = inr (end_back (Name l o k) p low h short (λ a. a) e)
  stop_back p n z Comment low short h e = inr (end_back Comment p low h short (λ a. a) e)
  stop_back p n z Done low short h e = accepts v tt e

  next_back : (R : Type 0) (r : Step) (k : SymbolMachine → Answer) → Back R r → next r k ≡ answer v → ((t : SymbolMachine) → r ≡ Ok t → k t ≡ answer v → RestAt t) → R
  next_back R (Ok t) k g e f = g (f t refl e)
  next_back R (Err d) k g e f = g e

  on_not_done : (m : SymbolMachine) → going bs m ≡ true → is_done m.state ≡ false
  on_not_done m go = cond_both (is_done m.state) false (ltb m.at (length bs)) (λ b. b ≡ true → is_done m.state ≡ false) (λ _ e. absurd (false≢true e)) (λ f _. f) go

  back : (f : ℕ) (m : SymbolMachine) → length bs - m.at ≤ f → m.at ≤ length bs → Short m.state → ran f bs m ≡ answer v → RestAt m
  back zero m u low short e = stop_back m.at m.inputs m.seen m.state low short (past_end is_over (λ m. m.at) bs m (omega arith)) e
  back (suc f) m u low short e =
      ⊎_elim
      (λ go.
      let i = inside is_over (λ m. m.at) bs m go in
      let R : Type 0 = RestAt m in
      next_back R (step_of bs m) (ran f bs)
      (subst (Back R) (sym (cond-true (ltb m.at (length bs)) _ _ (lt-ltb _ _ i))) (step_back m i m.state (get_or bs m.at 0) (drop_more bs m.at 0 i) short (on_not_done m go)))
      (sym (cond-true (going bs m) _ _ go) ∙ e)
      (λ t et er. let o = onward bs m t et in back f t (omega (arith, o.0)) o.1 o.2 er))
      (λ stop. stop_back m.at m.inputs m.seen m.state low short stop (sym (cond-false (going bs m) _ _ stop) ∙ e))
      (cases_Bool (going bs m))

  -- past the end of the file nothing is read
  past : (f p n : ℕ) → length bs ≤ p → ran f bs (first p n) ≡ answer v → Ok tt ≡ answer v
  past zero p n h e = e
  past (suc f) p n h e = sym (cond-false (going bs (first p n)) _ _ (past_end is_over (λ m. m.at) bs (first p n) h)) ∙ e

  pub symbols_back : (p n : ℕ) → ran (length bs) bs (first p n) ≡ answer v → Lines bs v n (replicate slots false) (drop p bs)
  symbols_back p n e =
      ⊎_elim
      (λ t. let h = leb-true _ _ t in record { symbols = []; here = drop p bs; lines = refl; free = tt; last = inl (accepts v tt (past (length bs) p n h e), inl (drop_all p bs h)) })
      (λ f. let low = leb-false _ _ f in back (length bs) (first p n) (omega arith) (omega arith) tt e)
      (cases_Bool (leb (length bs) p))

-- A closing line that is malformed is refused by the symbol machine, which tells why. Assumes nothing.
use Rattle.std.proofs.Common.{◌≡◌, ℕ, zero, suc, ◌+◌, ◌-◌, ◌<◌, ◌≤◌, Bool, true, false, cond, eqb, ltb, leb, List, [], ◌∷◌, ◌++◌, length, get_or, drop, Some, None, Ok, Err, Result, slice_get, sym, refl, ap, ◌∙◌, subst, inl, inr, ◌⊎◌, ⊎_elim, arith}
use Rattle.std.specs.Prelude.{MatchResult}
use Rattle.std.proofs.lemmas.List.{drop_more, drop_all}
use Rattle.std.proofs.lemmas.Bool.{cond-true, cond-false, cond_both, cases_Bool, eqb-true, eqb-false, lt-ltb, ltb-false, leb-true, leb-false, false≢true, true≢false}
use Rattle.faults.specs.declared.text.TextFault.{TextFault}
use Rattle.faults.specs.declared.text.TextFault.TheVariants.{TooLong, Misfit, BadNumber}
use Rattle.text.specs.declared.classes.Class.TheVariants.{Digit, Blank, Newline, Letter as SmallLetter}
use Rattle.text.specs.Classes.{class_of, is}
use Rattle.text.specs.Numbers.{is_digit, digits, number_at}
use Rattle.text.specs.Runs.{next}
use Rattle.text.proofs.Bytes.{newline_byte, blank_byte, digit_class}
use Rattle.text.proofs.Runs.{past_end, inside}
use Rattle.aiger.specs.Lines.{up}
use Rattle.aiger.specs.Symbols.{max_name, nameable, starts, placed, longer, named, step_by, step_of, is_done, is_over, end_of}
use Rattle.aiger.specs.Grammar.{letter_byte}
use Rattle.aiger.specs.Malformed.{Begins, Loose, closing, Anything, Byte, DigitFirst, NameRest, Why}
use Rattle.aiger.specs.declared.states.Letter.{Letter}
use Rattle.aiger.specs.declared.states.Letter.TheVariants.{Input, Output}
use Rattle.aiger.specs.declared.states.State.{State}
use Rattle.aiger.specs.declared.states.State.TheVariants.{Start, Position, Gap, Name, Comment, Done}
use Rattle.aiger.specs.declared.states.SymbolFault.{SymbolFault}
use Rattle.aiger.specs.declared.states.SymbolFault.TheVariants.{Text}
use Rattle.aiger.specs.declared.symbols.SymbolMachine.{SymbolMachine}
use Rattle.aiger.proofs.LineFaults.{behind}
use Rattle.aiger.proofs.LinesTold.{nothing_wrong}
use Rattle.aiger.proofs.Pieces.{Undigited, cons_same, none_some, not_digit}
use Rattle.aiger.proofs.PiecesTold.{none_there, first_wrong, first_right, byte_right, number_cases}
use Rattle.aiger.proofs.SymbolForms.{Going, Loosely, Short, name_of, name_some, going_some, name_going, name_loosely, Allowed, allowed, Lost, not_c, no_start}
use Rattle.aiger.proofs.SymbolSteps.{Step, going, ran, onward}

-- a text that begins so may have any digits for its position
going_loosely : (s : State) (xs : List ℕ) → Going s xs → Loosely s xs
going_loosely Start xs (inl e) = inl e
going_loosely Start xs (inr (s, rest, form)) =
    let name = s.name ++ 10 ∷ rest in
    inr (s.letter, (form.ds ++ 32 ∷ name, form.text, (form.ds, 32 ∷ name, form.position.some, form.position.digit, refl, (name, refl, name_of s xs rest form))))
going_loosely (Position l) xs (v, ds, rest, num, e, m) = (ds, rest, num.some, num.digit, e, m)
going_loosely (Gap l p) xs m = m
going_loosely (Name l p k) xs m = m
going_loosely Comment xs m = m
going_loosely Done xs m = m

empty_undigited : DigitFirst [] → ⊥
empty_undigited d = none_some d.0 d.1

-- texts that begin with no digit
start_undigited : Undigited (Loose closing)
start_undigited = ([], inl (inl refl), empty_undigited)

blank_undigited : Undigited (Byte 32 (NameRest 0))
blank_undigited = let n = name_some 0 (omega arith) in (32 ∷ n.0, (n.0, refl, n.1), not_digit 32 n.0 refl)

newline_undigited : Undigited (Byte 10 Anything)
newline_undigited = (10 ∷ [], ([], refl, tt), not_digit 10 [] refl)

-- where the byte, or the end of the file, may not stand
wrong_here : (bs : List ℕ) (s : State) (p : ℕ) (e : TextFault) → p ≤ length bs → Undigited (Loosely s) → (Allowed s (slice_get (drop p bs) 0) → ⊥) → Lost bs s (drop p bs) e → e ≡ Misfit p
wrong_here bs s p e low plain other f =
    first_wrong (Going s) (Loosely s) plain bs p e low f (λ xs m same. other (subst (Allowed s) same (allowed s xs (going_loosely s xs m))))

-- behind the first byte

position_some : (l : Letter) → (xs : List ℕ) × Loosely (Position l) xs
position_some l = let n = going_some (Position l) tt in (n.0, going_loosely (Position l) n.0 n.1)

letter_back : (l : Letter) (xs : List ℕ) → Begins closing (letter_byte l ∷ xs) → Going (Position l) xs
letter_back l xs (inl (inl e)) = cc
letter_back l xs (inl (inr (more, e))) = absurd (not_c l (cons_same (letter_byte l) 99 xs (10 ∷ more) e).0)
letter_back l xs (inr (s, rest, form)) =
    let name = s.name ++ 10 ∷ rest in
    let same = cons_same (letter_byte l) (letter_byte s.letter) xs (form.ds ++ 32 ∷ name) form.text in
    (s.position, form.ds, 32 ∷ name, form.position, same.1, (name, refl, name_of s (letter_byte l ∷ xs) rest form))

comment_back : (xs : List ℕ) → Begins closing (99 ∷ xs) → Going Comment xs
comment_back xs (inl (inl e)) = cc
comment_back xs (inl (inr (more, e))) = (more, (cons_same 99 99 xs (10 ∷ more) e).1, tt)
comment_back xs (inr (s, rest, form)) = absurd (not_c s.letter (sym (cons_same 99 (letter_byte s.letter) xs (form.ds ++ 32 ∷ (s.name ++ 10 ∷ rest)) form.text).0))

module _ (bs : List ℕ) (e : TextFault) where
  -- a step goes on to what is wrong, or tells it
  abbrev Out : Step → Type 0
  Out r = MatchResult r (λ t. Lost bs t.state (drop t.at bs) e) (λ d. d ≡ Text e)

  module _ (m : SymbolMachine) (low : m.at < length bs) where
    abbrev rest : List ℕ
    rest = drop (m.at + 1) bs

    abbrev At : ℕ → Type 0
    At b = drop m.at bs ≡ b ∷ rest

    -- the byte misfits, as it must
    off_out : (s : State) (b : ℕ) → At b → Undigited (Loosely s) → (Allowed s (Some b) → ⊥) → Lost bs s (drop m.at bs) e → Text (Misfit m.at) ≡ Text e
    off_out s b d plain other f =
        let wrong = wrong_here bs s m.at e (omega arith) plain (λ a. other (subst (λ (x : List ℕ). Allowed s (slice_get x 0)) d a)) f in
        (λ i. Text (sym wrong i))

    from : (s : State) (b x : ℕ) → At b → b ≡ x → Lost bs s (drop m.at bs) e → Lost bs s (x ∷ rest) e
    from s b x d same f = subst (λ (ts : List ℕ). Lost bs s ts e) (d ∙ ap (λ (b : ℕ). b ∷ rest) same) f

    letter_out : (l : Letter) → Lost bs Start (letter_byte l ∷ rest) e → Lost bs (Position l) rest e
    letter_out l f =
        first_right (Begins closing) (Loose closing) start_undigited (Going (Position l)) (Loosely (Position l)) bs (letter_byte l) rest e (letter_back l) (λ xs k. inr (l, (xs, refl, k))) (position_some l) f

    comment_out : Lost bs Start (99 ∷ rest) e → Lost bs Comment rest e
    comment_out f =
        first_right (Begins closing) (Loose closing) start_undigited (Going Comment) (Loosely Comment) bs 99 rest e comment_back (λ xs k. inl (inr (k.0, ap (λ (x : List ℕ). 99 ∷ x) k.1))) (10 ∷ [], ([], refl, tt)) f

    start_out : (b : ℕ) → At b → Lost bs Start (drop m.at bs) e → Out (starts m b)
    start_out b d f =
        cond_both (eqb b 105) _ _ Out (λ i. letter_out Input (from Start b 105 d (eqb-true b 105 i) f)) (λ i.
        cond_both (eqb b 111) _ _ Out (λ o. letter_out Output (from Start b 111 d (eqb-true b 111 o) f)) (λ o.
        cond_both (eqb b 99) _ _ Out (λ c. comment_out (from Start b 99 d (eqb-true b 99 c) f))
        (λ c. off_out Start b d start_undigited (no_start b (eqb-false b 105 i) (eqb-false b 111 o) (eqb-false b 99 c)) f)))

    up_out : (r : Result (ℕ × ℕ) TextFault) (k : ℕ × ℕ → Step) → (r ≡ Err e) ⊎ ((v : ℕ × ℕ) × (r ≡ Ok v) × Out (k v)) → Out (up Text r k)
    up_out r k (inl h) = subst (λ (r : Result (ℕ × ℕ) TextFault). Out (up Text r k)) (sym h) refl
    up_out r k (inr (v, h, o)) = subst (λ (r : Result (ℕ × ℕ) TextFault). Out (up Text r k)) (sym h) o

    place_out : (l : Letter) → Lost bs (Position l) (drop m.at bs) e → Out (placed bs m l)
    place_out l f =
        let More : List ℕ → Type 0 = Byte 32 (NameRest 0) in
        let some = going_some (Gap l 0) tt in
        up_out (number_at bs m.at) _
        (number_cases More More some some (behind 32 (NameRest 0) (NameRest 0) refl) (behind 32 (NameRest 0) (NameRest 0) refl) bs m.at e (omega arith) f)

    no_digit_out : (l : Letter) (b : ℕ) → At b → is_digit b ≡ false → Lost bs (Position l) (drop m.at bs) e → Text (Misfit m.at) ≡ Text e
    no_digit_out l b d n f =
        let More : List ℕ → Type 0 = Byte 32 (NameRest 0) in
        let some = going_some (Gap l 0) tt in
        let empty : length (digits (drop m.at bs)) ≡ 0 = ap (λ (ts : List ℕ). length (digits ts)) d ∙ ap length (cond-false (is_digit b) (b ∷ digits rest) [] n) in
        let wrong = none_there More More some some (behind 32 (NameRest 0) (NameRest 0) refl) (behind 32 (NameRest 0) (NameRest 0) refl) bs m.at e (omega arith) f empty in
        (λ i. Text (sym wrong i))

    -- a name

    name_ends : (l : Letter) (p k : ℕ) → 1 ≤ k → k ≤ max_name → Lost bs (Name l p k) (10 ∷ rest) e → ⊥
    name_ends l p k some short f =
        nothing_wrong bs rest e
        (first_right (NameRest k) (NameRest k) (name_some k short) Anything Anything bs 10 rest e (λ xs n. tt)
        (λ xs a. record { name = []; rest = xs; some = omega arith; few = omega arith; bytes = tt; text = refl }) ([], tt) f)

    line_out : (l : Letter) (p k b : ℕ) → At b → k ≤ max_name → b ≡ 10 → Lost bs (Name l p k) (drop m.at bs) e → Out (named m l p k)
    line_out l p k b d short nb f =
        cond_both (eqb k 0) _ _ Out
        (λ z. off_out (Name l p k) b d (name_some k short)
        (⊎_elim (λ a. let none = eqb-true k 0 z in absurd (omega (arith, a.1))) (λ a. true≢false (sym a.0 ∙ ap (λ (b : ℕ). nameable (class_of b)) nb))) f)
        (λ z. let some : k ≡ 0 → ⊥ = eqb-false k 0 z in absurd (name_ends l p k (omega arith) short (from (Name l p k) b 10 d nb f)))

    name_out : (l : Letter) (p k b : ℕ) → At b → k ≤ max_name → is Newline (class_of b) ≡ false → nameable (class_of b) ≡ true → Lost bs (Name l p k) (drop m.at bs) e → Out (longer m l p k)
    name_out l p k b d short other nb f =
        cond_both (leb max_name k) _ _ Out
        (λ full. off_out (Name l p k) b d (name_some k short)
        (⊎_elim (λ a. false≢true (sym other ∙ ap (λ (b : ℕ). is Newline (class_of b)) a.0)) (λ a. let more = leb-true max_name k full in absurd (omega (arith, a.1)))) f)
        (λ h.
        let fewer = leb-false max_name k h in
        let some = going_some (Name l p (k + 1)) (omega arith) in
        first_right (NameRest k) (NameRest k) (name_some k short) (NameRest (k + 1)) (NameRest (k + 1)) bs b rest e (λ xs n. name_loosely k b xs nb n) (λ xs n. name_going k b xs nb n) some (from (Name l p k) b b d refl f))

    -- one step
    step_out : (s : State) (b : ℕ) → At b → Short s → Lost bs s (drop m.at bs) e → Out (step_by bs m s (class_of b) b)
    step_out Start b d short f =
        cond_both (is SmallLetter (class_of b)) _ _ Out (λ _. start_out b d f)
        (λ n.
        let other : (x : ℕ) → is SmallLetter (class_of x) ≡ true → b ≡ x → ⊥ = λ x t same. false≢true (sym n ∙ ap (λ (b : ℕ). is SmallLetter (class_of b)) same ∙ t) in
        off_out Start b d start_undigited (no_start b (other 105 refl) (other 111 refl) (other 99 refl)) f)
    step_out (Position l) b d short f = cond_both (is Digit (class_of b)) _ _ Out (λ _. place_out l f) (λ n. no_digit_out l b d (sym (digit_class b) ∙ n) f)
    step_out (Gap l p) b d short f =
        cond_both (is Blank (class_of b)) _ _ Out
        (λ t. byte_right 32 (NameRest 0) (NameRest 0) (going_some (Name l p 0) (omega arith)) refl bs rest e (from (Gap l p) b 32 d (blank_byte b t) f))
        (λ n. off_out (Gap l p) b d blank_undigited (λ a. false≢true (sym n ∙ ap (λ (b : ℕ). is Blank (class_of b)) a)) f)
    step_out (Name l p k) b d short f =
        cond_both (is Newline (class_of b)) _ _ Out (λ i. line_out l p k b d short (newline_byte b i) f)
        (λ n. cond_both (nameable (class_of b)) _ _ Out (λ nb. name_out l p k b d short n nb f)
        (λ u. off_out (Name l p k) b d (name_some k short) (⊎_elim (λ a. false≢true (sym n ∙ ap (λ (b : ℕ). is Newline (class_of b)) a.0)) (λ a. false≢true (sym u ∙ a.0))) f))
    step_out Comment b d short f =
        cond_both (is Newline (class_of b)) _ _ Out
        (λ t. absurd (nothing_wrong bs rest e (byte_right 10 Anything Anything ([], tt) refl bs rest e (from Comment b 10 d (newline_byte b t) f))))
        (λ n. off_out Comment b d newline_undigited (λ a. false≢true (sym n ∙ ap (λ (b : ℕ). is Newline (class_of b)) a)) f)
    step_out Done b d short f = absurd (nothing_wrong bs (drop m.at bs) e f)

  -- the end of the file

  pub start_ends : Lost bs Start [] e → ⊥
  start_ends f = by_front f.front f.here f.split e f.why
    where
      by_front : (front here : List ℕ) → [] ≡ front ++ here → (e : TextFault) → Why (Loose closing) bs front here e → ⊥
      by_front (c ∷ front) here split e w = cc
      by_front [] here split TooLong w = w
      by_front [] here split (Misfit q) w = w.1 [] (inl (inl refl)) (ap (λ (x : List ℕ). slice_get x 0) split)
      by_front [] here split (BadNumber q) w = empty_undigited (w.1 [] (inl (inl refl)))

  end_wrong : (s : State) (p : ℕ) → p ≤ length bs → ltb p (length bs) ≡ false → Undigited (Loosely s) → (Allowed s None → ⊥) → Lost bs s (drop p bs) e → ◌≡◌ {A = Result (Unit {0}) SymbolFault} (Err (Text (Misfit p))) (Err (Text e))
  end_wrong s p low stop plain other f =
      let wrong = wrong_here bs s p e low plain (λ a. other (subst (λ (x : List ℕ). Allowed s (slice_get x 0)) (drop_all p bs (ltb-false _ _ stop)) a)) f in
      (λ i. Err (Text (sym wrong i)))

  end_out : (p n : ℕ) (z : List Bool) (s : State) → p ≤ length bs → Short s → cond (is_done s) false (ltb p (length bs)) ≡ false → Lost bs s (drop p bs) e → end_of (record { state = s; at = p; inputs = n; seen = z }) ≡ Err (Text e)
  end_out p n z Start low short h f = absurd (start_ends (subst (λ (ts : List ℕ). Lost bs Start ts e) (drop_all p bs (ltb-false _ _ h)) f))
  end_out p n z (Position l) low short h f =
      let More : List ℕ → Type 0 = Byte 32 (NameRest 0) in
      let some = going_some (Gap l 0) tt in
      let empty : length (digits (drop p bs)) ≡ 0 = ap (λ (ts : List ℕ). length (digits ts)) (drop_all p bs (ltb-false _ _ h)) in
      let wrong = none_there More More some some (behind 32 (NameRest 0) (NameRest 0) refl) (behind 32 (NameRest 0) (NameRest 0) refl) bs p e low f empty in
      (λ i. Err (Text (sym wrong i)))
  end_out p n z (Gap l o) low short h f = end_wrong (Gap l o) p low h blank_undigited (λ a. a) f
  end_out p n z (Name l o k) low short h f = end_wrong (Name l o k) p low h (name_some k short) (λ a. a) f
  end_out p n z Comment low short h f = end_wrong Comment p low h newline_undigited (λ a. a) f
  end_out p n z Done low short h f = absurd (nothing_wrong bs (drop p bs) e f)

  next_out : (r : Step) (k : SymbolMachine → Result (Unit {0}) SymbolFault) → Out r → ((t : SymbolMachine) → r ≡ Ok t → Lost bs t.state (drop t.at bs) e → k t ≡ Err (Text e)) → next r k ≡ Err (Text e)
  next_out (Ok t) k o f = f t refl o
  next_out (Err d) k o f = (λ i. Err (o i))

  pub lost_read : (f : ℕ) (m : SymbolMachine) → length bs - m.at ≤ f → m.at ≤ length bs → Short m.state → Lost bs m.state (drop m.at bs) e → ran f bs m ≡ Err (Text e)
  lost_read zero m u low short l = end_out m.at m.inputs m.seen m.state low short (past_end is_over (λ m. m.at) bs m (omega arith)) l
  lost_read (suc f) m u low short l =
      ⊎_elim
      (λ go.
      let i = inside is_over (λ m. m.at) bs m go in
      cond-true (going bs m) _ _ go
      ∙ next_out (step_of bs m) (ran f bs) (subst Out (sym (cond-true (ltb m.at (length bs)) _ _ (lt-ltb _ _ i))) (step_out m i m.state (get_or bs m.at 0) (drop_more bs m.at 0 i) short l))
      (λ t et lt. let o = onward bs m t et in lost_read f t (omega (arith, o.0)) o.1 o.2 lt))
      (λ stop. cond-false (going bs m) _ _ stop ∙ end_out m.at m.inputs m.seen m.state low short stop l)
      (cases_Bool (going bs m))

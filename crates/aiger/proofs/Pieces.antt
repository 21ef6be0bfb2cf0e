-- Texts piece by piece: where a text of a form stops to be one. Assumes nothing.
use Rattle.std.proofs.Common.{◌≡◌, ℕ, zero, suc, ◌≤◌, true, false, eqb, List, [], ◌∷◌, ◌++◌, length, get_or, drop, Some, None, Ok, Err, Result, Option, slice_get, sym, refl, ap, ◌∙◌, subst, inl, inr, ◌⊎◌, ⊎_elim, append_assoc, arith}
use Rattle.std.proofs.lemmas.List.{length-drop, drop-drop}
use Rattle.std.proofs.lemmas.Bool.{cond-true, cond_both, false≢true, eqb-true, eqb-false, and_from, le-leb}
use Rattle.std.proofs.lemmas.Bool.Decides.{nat_tests}
use Rattle.faults.specs.declared.text.TextFault.{TextFault}
use Rattle.faults.specs.declared.text.TextFault.TheVariants.{TooLong, Misfit, BadNumber}
use Rattle.text.specs.Numbers.{is_digit, AllDigits, digits, fair, number_at}
use Rattle.text.proofs.Answers.{err_same}
use Rattle.text.proofs.Digits.{all_digits}
use Rattle.aiger.specs.Grammar.{Numeral}
use Rattle.aiger.specs.Malformed.{Byte, Digits, DigitFirst, Why}
use Rattle.aiger.proofs.NumberTexts.{judge_back, number_back}

-- texts that begin so, and the same with any digits for their numbers
module _ (B L : List ℕ → Type 0) where
  -- the text ts of the file has this fault
  pub record Faulty (bs ts : List ℕ) (e : TextFault) : Type 0 where
    pub front : List ℕ
    pub here : List ℕ
    pub split : ts ≡ front ++ here
    pub begins : (xs : List ℕ) × B (front ++ xs)
    pub why : Why L bs front here e

  -- at its first byte
  pub stuck_here : (bs : List ℕ) (p : ℕ) → p ≤ length bs → (xs : List ℕ) × B xs → ((xs : List ℕ) → L xs → slice_get xs 0 ≡ slice_get (drop p bs) 0 → ⊥) → Faulty bs (drop p bs) (Misfit p)
  stuck_here bs p h some none = record { front = []; here = drop p bs; split = refl; begins = some; why = (omega (arith, length-drop p bs), none) }

-- a text of the form that begins with no digit, or is empty
abbrev pub Undigited : (List ℕ → Type 0) → Type 0
Undigited L = (xs : List ℕ) × L xs × (DigitFirst xs → ⊥)

-- the first byte

first_same : (f xs ys : List ℕ) → slice_get xs 0 ≡ slice_get ys 0 → slice_get (f ++ xs) 0 ≡ slice_get (f ++ ys) 0
first_same [] xs ys e = e
first_same (b ∷ f) xs ys e = refl

pub digit_same : (xs ys : List ℕ) → slice_get xs 0 ≡ slice_get ys 0 → DigitFirst xs → DigitFirst ys
digit_same xs ys e (d, at, is) = (d, sym e ∙ at, is)

digit_front : (f xs ys : List ℕ) → DigitFirst (f ++ xs) → DigitFirst xs ⊎ DigitFirst (f ++ ys)
digit_front [] xs ys d = inl d
digit_front (b ∷ f) xs ys d = inr d

-- a text that goes on with ts behind front: the form goes on so, or there are more digits than the file has
module _ (B L B' L' : List ℕ → Type 0) (front ts : List ℕ) (more : (xs : List ℕ) → B' xs → B (front ++ xs)) (less : (xs : List ℕ) → L (front ++ xs) → L' xs ⊎ (DigitFirst xs × (DigitFirst ts → ⊥))) where
  less_stuck : (f here xs : List ℕ) → ts ≡ f ++ here → slice_get xs 0 ≡ slice_get here 0 → L (front ++ (f ++ xs)) → L' (f ++ xs)
  less_stuck f here xs e s l =
      ⊎_elim (λ l. l) (λ over. absurd (over.1 (subst DigitFirst (sym e) (digit_same (f ++ xs) (f ++ here) (first_same f xs here s) over.0)))) (less (f ++ xs) l)

  less_only : (f here xs : List ℕ) → ts ≡ f ++ here → (L' (f ++ xs) → DigitFirst xs) → L (front ++ (f ++ xs)) → DigitFirst xs
  less_only f here xs e only l =
      ⊎_elim only (λ over. ⊎_elim (λ d. d) (λ d. absurd (over.1 (subst DigitFirst (sym e) d))) (digit_front f xs here over.0)) (less (f ++ xs) l)

  why_on : (bs f here : List ℕ) (e : TextFault) → ts ≡ f ++ here → Why L' bs f here e → Why L bs (front ++ f) here e
  why_on bs f here TooLong split w = w
  why_on bs f here (Misfit q) split (at, stuck) = (at, (λ xs l s. stuck xs (less_stuck f here xs split s (subst L (append_assoc front f xs) l)) s))
  why_on bs f here (BadNumber q) split (at, only, some, none) = (at, (λ xs l. less_only f here xs split (only xs) (subst L (append_assoc front f xs) l)), some, none)

  pub shift : (bs : List ℕ) (e : TextFault) → Faulty B' L' bs ts e → Faulty B L bs (front ++ ts) e
  shift bs e f = record {
    front = front ++ f.front;
    here = f.here;
    split = ap (λ (x : List ℕ). front ++ x) f.split ∙ sym (append_assoc front f.front f.here);
    begins = (f.begins.0, subst B (sym (append_assoc front f.front f.begins.0)) (more (f.front ++ f.begins.0) f.begins.1));
    why = why_on bs f.front f.here e f.split f.why;
  }

-- lists

pub cons_same : (x y : ℕ) (xs ys : List ℕ) → x ∷ xs ≡ y ∷ ys → (x ≡ y) × (xs ≡ ys)
cons_same x y xs ys e = (ap (λ (l : List ℕ). get_or l 0 0) e, ap (drop 1) e)

-- two splits of one text
pub splits : (a x b y : List ℕ) → a ++ x ≡ b ++ y → ((e : List ℕ) × (b ≡ a ++ e) × (x ≡ e ++ y)) ⊎ ((d : ℕ) × (e : List ℕ) × (a ≡ b ++ d ∷ e) × (y ≡ d ∷ (e ++ x)))
splits [] x b y e = inl (b, refl, e)
splits (d ∷ a) x [] y e = inr (d, a, refl, sym e)
splits (c ∷ a) x (d ∷ b) y e =
    let h = cons_same c d (a ++ x) (b ++ y) e in
    ⊎_elim (λ s. inl (s.0, (λ i. sym h.0 i ∷ s.1 i), s.2)) (λ s. inr (s.0, s.1, (λ i. h.0 i ∷ s.2 i), s.3)) (splits a x b y h.1)

-- a byte

module _ (b : ℕ) (B L : List ℕ → Type 0) where
  pub byte_stuck : (bs : List ℕ) (p : ℕ) → p ≤ length bs → (xs : List ℕ) × B xs → (slice_get (drop p bs) 0 ≡ Some b → ⊥) → Faulty (Byte b B) (Byte b L) bs (drop p bs) (Misfit p)
  byte_stuck bs p h some other =
      stuck_here (Byte b B) (Byte b L) bs p h (b ∷ some.0, (some.0, refl, some.1)) (λ xs l s. other (sym s ∙ ap (λ (x : List ℕ). slice_get x 0) l.1))

  pub byte_on : (bs rest : List ℕ) (e : TextFault) → Faulty B L bs rest e → Faulty (Byte b B) (Byte b L) bs (b ∷ rest) e
  byte_on bs rest e f =
      shift (Byte b B) (Byte b L) B L (b ∷ []) rest (λ xs m. (xs, refl, m)) (λ xs l. inl (subst L (sym (cons_same b b xs l.0 l.1).1) l.2)) bs e f

-- a number

abbrev pub Number : (List ℕ → Type 0) → List ℕ → Type 0
Number More ts = (v : ℕ) × (ds : List ℕ) × (rest : List ℕ) × Numeral v ds × (ts ≡ ds ++ rest) × More rest

digit_is : (b : ℕ) → 48 ≤ b → b ≤ 57 → is_digit b ≡ true
digit_is b l h = and_from _ _ (le-leb 48 b l) (le-leb b 57 h)

pub some_same : (x y : ℕ) → ◌≡◌ {A = Option ℕ} (Some x) (Some y) → x ≡ y
some_same x y e = cc

pub none_some : (d : ℕ) → ◌≡◌ {A = Option ℕ} None (Some d) → ⊥
none_some d e = cc

pub not_digit : (b : ℕ) (xs : List ℕ) → is_digit b ≡ false → DigitFirst (b ∷ xs) → ⊥
not_digit b xs n d = false≢true (sym n ∙ ap is_digit (some_same b d.0 d.1) ∙ d.2)

-- digits stand first
pub digits_first : (M : List ℕ → Type 0) (xs : List ℕ) → Digits M xs → DigitFirst xs
digits_first M xs ([], rest, some, all, e, m) = absurd (omega arith)
digits_first M xs (d ∷ ds, rest, some, all, e, m) = (d, ap (λ (x : List ℕ). slice_get x 0) e, digit_is d (all 0 (omega arith)).0 (all 0 (omega arith)).1)

pub run_some : (ts : List ℕ) → DigitFirst ts → 1 ≤ length (digits ts)
run_some [] (d, at, is) = absurd (none_some d at)
run_some (b ∷ ts) (d, at, is) =
    let same = some_same b d at in
    let run : digits (b ∷ ts) ≡ b ∷ digits ts = cond-true _ _ _ (ap is_digit same ∙ is) in
    omega (arith, ap length run)

-- no digit stands behind the run
pub run_end : (ts : List ℕ) → DigitFirst (drop (length (digits ts)) ts) → ⊥
run_end [] h = absurd (none_some h.0 h.1)
run_end (b ∷ ts) h =
    cond_both (is_digit b) (b ∷ digits ts) [] (λ (l : List ℕ). DigitFirst (drop (length l) (b ∷ ts)) → ⊥) (λ _. run_end ts)
    (λ e d. not_digit b ts e d) h

number_end : (bs : List ℕ) (p : ℕ) (v : ℕ × ℕ) → number_at bs p ≡ Ok v → DigitFirst (drop v.1 bs) → ⊥
number_end bs p v e d =
    let ds = digits (drop p bs) in
    let j = judge_back p v ds (all_digits (drop p bs)) e in
    run_end (drop p bs) (subst DigitFirst (ap (λ (i : ℕ). drop i bs) j.1 ∙ sym (drop-drop (length ds) p bs)) d)

pub nought : Numeral 0 (48 ∷ [])
nought = record { some = omega arith; few = omega arith; digit = digit; plain = λ _. refl; value = refl }
  where
    digit : AllDigits (48 ∷ [])
    digit zero h = (omega arith, omega arith)
    digit (suc k) h = absurd (omega arith)

numeral_fair : (v : ℕ) (ds : List ℕ) → Numeral v ds → fair (get_or ds 0 0) (length ds) ≡ true
numeral_fair v ds n = grind (arith, nat_tests)

pub digit_at : (ds : List ℕ) (d : ℕ) (es : List ℕ) → AllDigits (ds ++ d ∷ es) → is_digit d ≡ true
digit_at [] d es all = digit_is d (all 0 (omega arith)).0 (all 0 (omega arith)).1
digit_at (c ∷ ds) d es all = digit_at ds d es (λ k h. all (suc k) (omega arith))

module _ (B L : List ℕ → Type 0) where
  pub number_stuck : (bs : List ℕ) (p : ℕ) (e : TextFault) → p ≤ length bs → (xs : List ℕ) × B xs → number_at bs p ≡ Err e → Faulty (Number B) (Digits L) bs (drop p bs) e
  number_stuck bs p e h some =
      let here = drop p bs in
      let begins : (xs : List ℕ) × Number B xs = (48 ∷ some.0, (0, 48 ∷ [], some.0, nought, refl, some.1)) in
      cond_both (eqb (length (digits here)) 0) _ _ (λ (r : Result (ℕ × ℕ) TextFault). r ≡ Err e → Faulty (Number B) (Digits L) bs here e)
      (λ t r. subst (Faulty (Number B) (Digits L) bs here) (err_same _ _ r)
      (stuck_here (Number B) (Digits L) bs p h begins (λ xs l s. let few = run_some here (digit_same xs here s (digits_first L xs l)) in let none = eqb-true _ _ t in omega arith)))
      (λ f. cond_both (fair (get_or (digits here) 0 0) (length (digits here))) _ _ (λ (r : Result (ℕ × ℕ) TextFault). r ≡ Err e → Faulty (Number B) (Digits L) bs here e)
      (λ t r. cc)
      (λ g r. subst (Faulty (Number B) (Digits L) bs here) (err_same _ _ r) (record {
        front = [];
        here = here;
        split = refl;
        begins = begins;
        why = (
          omega (arith, length-drop p bs),
          (λ xs l. digits_first L xs l),
          (let none : length (digits here) ≡ 0 → ⊥ = eqb-false _ _ f in omega arith),
          (λ v n. false≢true (sym g ∙ numeral_fair v (digits here) n)),
        );
      })))

  -- digits that go on behind a run of digits
  pub digits_on : (ds xs : List ℕ) → AllDigits ds → ((d : ℕ) (xs : List ℕ) → L (d ∷ xs) → is_digit d ≡ false) → Digits L (ds ++ xs) → L xs ⊎ DigitFirst xs
  digits_on ds xs all none (es, rest, some, each, e, m) =
      ⊎_elim
      (λ s. further s.0 s.1 s.2)
      (λ s. absurd (false≢true (sym (none s.0 (s.1 ++ xs) (subst L s.3 m)) ∙ digit_at es s.0 s.1 (subst AllDigits s.2 all))))
      (splits ds xs es rest e)
    where
      further : (fs : List ℕ) → es ≡ ds ++ fs → xs ≡ fs ++ rest → L xs ⊎ DigitFirst xs
      further [] f x = inl (subst L (sym x) m)
      further (d ∷ fs) f x = inr (d, ap (λ (l : List ℕ). slice_get l 0) x, digit_at ds d fs (subst AllDigits f each))

  pub number_on : (bs : List ℕ) (p : ℕ) (v : ℕ × ℕ) (e : TextFault) → ((d : ℕ) (xs : List ℕ) → L (d ∷ xs) → is_digit d ≡ false) → number_at bs p ≡ Ok v → Faulty B L bs (drop v.1 bs) e
      → Faulty (Number B) (Digits L) bs (drop p bs) e
  number_on bs p v e none r f =
      let a = number_back bs p v r in
      subst (λ (ts : List ℕ). Faulty (Number B) (Digits L) bs ts e) (sym a.2)
      (shift (Number B) (Digits L) B L a.0 (drop v.1 bs) (λ xs m. (v.0, a.0, xs, a.1, refl, m))
      (λ xs l. ⊎_elim (λ l. inl l) (λ d. inr (d, number_end bs p v r)) (digits_on a.0 xs a.1.digit none l)) bs e f)

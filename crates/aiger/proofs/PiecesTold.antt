-- Texts piece by piece: the reader stops where a text of a form does, and tells why. Assumes nothing.
use Rattle.std.proofs.Common.{◌≡◌, ℕ, zero, suc, ◌+◌, ◌≤◌, true, false, ◌&&◌, eqb, ltb, List, [], ◌∷◌, ◌++◌, length, get_or, drop, Some, Ok, Err, Result, slice_get, sym, refl, ap, ◌∙◌, subst, inl, inr, ◌⊎◌, ⊎_elim, append_assoc, arith}
use Rattle.std.proofs.lemmas.List.{length-append, length-drop, drop-drop}
use Rattle.std.proofs.lemmas.Bool.{cond-true, cond-false, cond_both, cases_Bool, eqb-true, eqb-false, false≢true}
use Rattle.std.proofs.lemmas.Bool.Decides.{nat_tests}
use Rattle.faults.specs.declared.text.TextFault.{TextFault}
use Rattle.faults.specs.declared.text.TextFault.TheVariants.{TooLong, Misfit, BadNumber}
use Rattle.text.specs.Numbers.{is_digit, AllDigits, digits, fair, decimal, number_at}
use Rattle.text.specs.Lines.{expect_at, item_at}
use Rattle.text.specs.Runs.{next}
use Rattle.text.proofs.Digits.{all_digits}
use Rattle.text.proofs.Answers.{next_next}
use Rattle.aiger.specs.Grammar.{Numeral}
use Rattle.aiger.specs.Malformed.{Byte, Digits, DigitFirst, Why}
use Rattle.aiger.proofs.NumberTexts.{digits_front, judge_back, expect_read, expect_back}
use Rattle.aiger.proofs.LineFaults.{first_split, ok_not_err, behind, number_within}
use Rattle.aiger.proofs.Pieces.{Faulty, Undigited, Number, cons_same, splits, digit_at, digit_same, digits_first, digits_on, none_some, not_digit, run_end, run_some}

-- the place of a text that stands at p
place_is : (bs : List ℕ) (p q : ℕ) (here : List ℕ) → p ≤ length bs → drop p bs ≡ here → q + length here ≡ length bs → q ≡ p
place_is bs p q here low e at = omega (arith, length-drop p bs, ap length e)

-- ---- the first byte

module _ (B L : List ℕ → Type 0) (plain : Undigited L) where
  -- no text of the form begins so: what is wrong is wrong here
  pub first_wrong : (bs : List ℕ) (p : ℕ) (e : TextFault) → p ≤ length bs → Faulty B L bs (drop p bs) e → ((xs : List ℕ) → B xs → slice_get xs 0 ≡ slice_get (drop p bs) 0 → ⊥) → e ≡ Misfit p
  first_wrong bs p e low f other = by_front f.front f.split f.begins.1 e f.why
    where
      by_front : (front : List ℕ) → drop p bs ≡ front ++ f.here → B (front ++ f.begins.0) → (e : TextFault) → Why L bs front f.here e → e ≡ Misfit p
      by_front (c ∷ front) split m e w = absurd (other (c ∷ (front ++ f.begins.0)) m (sym (ap (λ (x : List ℕ). slice_get x 0) split)))
      by_front [] split m TooLong w = absurd w
      by_front [] split m (Misfit q) w = ap Misfit (place_is bs p q f.here low split w.0)
      by_front [] split m (BadNumber q) w = absurd (plain.2 (w.1 plain.0 plain.1))

  -- a text of the form may begin so: what is wrong is wrong behind the byte
  pub first_right : (B' L' : List ℕ → Type 0) (bs : List ℕ) (b : ℕ) (rest : List ℕ) (e : TextFault) → ((xs : List ℕ) → B (b ∷ xs) → B' xs) → ((xs : List ℕ) → L' xs → L (b ∷ xs)) → (xs : List ℕ) × L' xs
      → Faulty B L bs (b ∷ rest) e → Faulty B' L' bs rest e
  first_right B' L' bs b rest e less more some f = by_front f.front f.split f.begins.1 e f.why
    where
      behind_first : (c : ℕ) (front : List ℕ) (e : TextFault) → c ≡ b → Why L bs (c ∷ front) f.here e → Why L' bs front f.here e
      behind_first c front TooLong same w = w
      behind_first c front (Misfit q) same (at, stuck) = (at, (λ xs l. stuck xs (subst (λ (x : ℕ). L (x ∷ (front ++ xs))) (sym same) (more (front ++ xs) l))))
      behind_first c front (BadNumber q) same (at, only, found, none) =
          (at, (λ xs l. only xs (subst (λ (x : ℕ). L (x ∷ (front ++ xs))) (sym same) (more (front ++ xs) l))), found, none)

      by_front : (front : List ℕ) → b ∷ rest ≡ front ++ f.here → B (front ++ f.begins.0) → (e : TextFault) → Why L bs front f.here e → Faulty B' L' bs rest e
      by_front (c ∷ front) split m e w =
          let same = cons_same b c rest (front ++ f.here) split in
          record {
            front = front;
            here = f.here;
            split = same.1;
            begins = (f.begins.0, less (front ++ f.begins.0) (subst (λ (x : ℕ). B (x ∷ (front ++ f.begins.0))) (sym same.0) m));
            why = behind_first c front e (sym same.0) w;
          }
      by_front [] split m TooLong w = absurd w
      by_front [] split m (Misfit q) w = absurd (w.1 (b ∷ some.0) (more some.0 some.1) (ap (λ (x : List ℕ). slice_get x 0) split))
      by_front [] split m (BadNumber q) w = absurd (plain.2 (w.1 plain.0 plain.1))

-- a byte that is due

byte_undigited : (b : ℕ) (L : List ℕ → Type 0) → (xs : List ℕ) × L xs → is_digit b ≡ false → Undigited (Byte b L)
byte_undigited b L some nd = (b ∷ some.0, (some.0, refl, some.1), not_digit b some.0 nd)

module _ (b : ℕ) (B L : List ℕ → Type 0) (some : (xs : List ℕ) × L xs) (nd : is_digit b ≡ false) where
  pub byte_right : (bs rest : List ℕ) (e : TextFault) → Faulty (Byte b B) (Byte b L) bs (b ∷ rest) e → Faulty B L bs rest e
  byte_right bs rest e f =
      first_right (Byte b B) (Byte b L) (byte_undigited b L some nd) B L bs b rest e (λ xs m. subst B (sym (cons_same b b xs m.0 m.1).1) m.2) (λ xs l. (xs, refl, l)) some f

  pub expect_cases : (bs : List ℕ) (p : ℕ) (e : TextFault) → p ≤ length bs → Faulty (Byte b B) (Byte b L) bs (drop p bs) e
      → (expect_at bs p b ≡ Err e) ⊎ ((expect_at bs p b ≡ Ok (p + 1)) × Faulty B L bs (drop (p + 1) bs) e)
  expect_cases bs p e low f =
      ⊎_elim
      (λ t.
      let ok : expect_at bs p b ≡ Ok (p + 1) = cond-true _ _ _ t in
      inr (ok, byte_right bs (drop (p + 1) bs) e (subst (λ (ts : List ℕ). Faulty (Byte b B) (Byte b L) bs ts e) (expect_back bs p b (p + 1) ok) f)))
      (λ n.
      let wrong : e ≡ Misfit p = first_wrong (Byte b B) (Byte b L) (byte_undigited b L some nd) bs p e low f (λ xs m s. other n (sym s ∙ ap (λ (x : List ℕ). slice_get x 0) m.1)) in
      inl (cond-false _ _ _ n ∙ (λ i. Err (sym wrong i))))
      (cases_Bool (ltb p (length bs) && eqb (get_or bs p 0) b))
    where
      other : (ltb p (length bs) && eqb (get_or bs p 0) b) ≡ false → slice_get (drop p bs) 0 ≡ Some b → ⊥
      other n s = let split = first_split (drop p bs) b s in ok_not_err (p + 1) (Misfit p) (sym (expect_read bs p b split.0 split.1).0 ∙ cond-false _ _ _ n)

  pub expect_told : {X : Type 0} (bs : List ℕ) (p : ℕ) (e : TextFault) (k : ℕ → Result X TextFault) → p ≤ length bs → Faulty (Byte b B) (Byte b L) bs (drop p bs) e
      → (expect_at bs p b ≡ Ok (p + 1) → Faulty B L bs (drop (p + 1) bs) e → k (p + 1) ≡ Err e) → next (expect_at bs p b) k ≡ Err e
  expect_told bs p e k low f more =
      ⊎_elim (λ r. ap (λ (r : Result ℕ TextFault). next r k) r) (λ on. ap (λ (r : Result ℕ TextFault). next r k) on.0 ∙ more on.0 on.1) (expect_cases bs p e low f)

-- a number

-- digits that begin a numeral, and are the whole run, are one
fair_front : (ds es : List ℕ) (v : ℕ) → 1 ≤ length ds → Numeral v (ds ++ es) → fair (get_or ds 0 0) (length ds) ≡ true
fair_front [] es v some n = absurd (omega arith)
fair_front (d ∷ ds) es v some n = let few = n.few in let long = length-append (d ∷ ds) es in let plain = n.plain in grind (arith, nat_tests, few, long, plain)

module _ (B L : List ℕ → Type 0) (begun : (xs : List ℕ) × B xs) (some : (xs : List ℕ) × L xs) (ndB : (d : ℕ) (xs : List ℕ) → B (d ∷ xs) → is_digit d ≡ false) (ndL : (d : ℕ) (xs : List ℕ) → L (d ∷ xs) → is_digit d ≡ false) where
  loosen : (xs : List ℕ) → Number B xs → Digits B xs
  loosen xs (v, ds, rest, num, e, m) = (ds, rest, num.some, num.digit, e, m)

  -- a run that begins a number is fair
  run_fair : (run xs : List ℕ) → 1 ≤ length run → AllDigits run → Number B (run ++ xs) → fair (get_or run 0 0) (length run) ≡ true
  run_fair run xs long all (v, ds, rest, num, e, m) =
      ⊎_elim
      (λ s. fair_front run s.0 v long (subst (Numeral v) s.1 num))
      (λ s. absurd (false≢true (sym (ndB s.0 (s.1 ++ xs) (subst B s.3 m)) ∙ digit_at ds s.0 s.1 (subst AllDigits s.2 all))))
      (splits run xs ds rest e)

  -- where no digit follows, more follows the run
  run_more : (run xs : List ℕ) → AllDigits run → (DigitFirst xs → ⊥) → Number B (run ++ xs) → B xs
  run_more run xs all end m = ⊎_elim (λ b. b) (λ d. absurd (end d)) (digits_on B B run xs all ndB (loosen (run ++ xs) m))

  no_digit : (xs : List ℕ) → L xs → DigitFirst xs → ⊥
  no_digit [] l (d, at, is) = absurd (none_some d at)
  no_digit (c ∷ xs) l d = not_digit c xs (ndL c xs l) d

  front_digits : (ds es : List ℕ) → AllDigits (ds ++ es) → AllDigits ds
  front_digits [] es all k h = absurd (omega arith)
  front_digits (d ∷ ds) es all zero h = all 0 (omega arith)
  front_digits (d ∷ ds) es all (suc k) h = front_digits ds es (λ k h. all (suc k) (omega arith)) k (omega arith)

  module _ (bs run rest : List ℕ) (long : 1 ≤ length run) (all : AllDigits run) (end : DigitFirst rest → ⊥) where
    -- a number goes on to the end of the run
    over : (front : List ℕ) (d : ℕ) (es here : List ℕ) → run ≡ front ++ d ∷ es → here ≡ d ∷ (es ++ rest) → ((xs : List ℕ) → Digits L (front ++ xs) → slice_get xs 0 ≡ slice_get here 0 → ⊥) → ⊥
    over front d es here r h stuck =
        stuck (d ∷ (es ++ some.0)) (run, some.0, long, all, sym (ap (λ (x : List ℕ). x ++ some.0) r ∙ append_assoc front (d ∷ es) some.0), some.1) (sym (ap (λ (x : List ℕ). slice_get x 0) h))

    -- it may end before
    alone : (c : ℕ) (front es : List ℕ) → run ≡ (c ∷ front) ++ es → ((xs : List ℕ) → Digits L ((c ∷ front) ++ xs) → DigitFirst xs) → ⊥
    alone c front es r only = no_digit some.0 some.1 (only some.0 (c ∷ front, some.0, omega arith, front_digits (c ∷ front) es (subst AllDigits r all), refl, some.1))

    -- the whole run stands where the number is due
    at_run : (front : List ℕ) (d : ℕ) (es here : List ℕ) (e : TextFault) → run ≡ front ++ d ∷ es → here ≡ d ∷ (es ++ rest) → Why (Digits L) bs front here e
        → (front ≡ []) × ((q : ℕ) × (e ≡ BadNumber q) × (q + length here ≡ length bs) × ((v : ℕ) → Numeral v (digits here) → ⊥))
    at_run front d es here TooLong r h w = absurd w
    at_run front d es here (Misfit q) r h (at, stuck) = absurd (over front d es here r h stuck)
    at_run [] d es here (BadNumber q) r h (at, only, found, none) = (refl, (q, refl, at, none))
    at_run (c ∷ front) d es here (BadNumber q) r h (at, only, found, none) = absurd (alone c front (d ∷ es) r only)

    behind_why : (front g here : List ℕ) (e : TextFault) → front ≡ run ++ g → Why (Digits L) bs front here e → Why L bs g here e
    behind_why front g here TooLong f w = w
    behind_why front g here (Misfit q) f (at, stuck) = (at, (λ xs l. stuck xs (run, g ++ xs, long, all, ap (λ (x : List ℕ). x ++ xs) f ∙ append_assoc run g xs, l)))
    behind_why front g here (BadNumber q) f (at, only, found, none) =
        (at, (λ xs l. only xs (run, g ++ xs, long, all, ap (λ (x : List ℕ). x ++ xs) f ∙ append_assoc run g xs, l)), found, none)

    behind_begins : (g here xs : List ℕ) → rest ≡ g ++ here → Number B (run ++ (g ++ xs)) → (ys : List ℕ) × B (g ++ ys)
    behind_begins [] here xs r m = begun
    behind_begins (c ∷ g) here xs r m = (xs, run_more run (c ∷ (g ++ xs)) all (λ d. end (subst DigitFirst (sym r) d)) m)

  module _ (bs : List ℕ) (p : ℕ) (e : TextFault) (low : p ≤ length bs) (f : Faulty (Number B) (Digits L) bs (drop p bs) e) where
    abbrev here : List ℕ
    here = drop p bs

    abbrev run : List ℕ
    run = digits here

    abbrev rest : List ℕ
    rest = drop (length run) here

    -- no digit stands there
    pub none_there : length run ≡ 0 → e ≡ Misfit p
    none_there none = by_front f.front f.split f.begins.1 e f.why
      where
        no_run : DigitFirst here → ⊥
        no_run d = let some = run_some here d in absurd (omega (arith, none))

        by_why : (e : TextFault) → Why (Digits L) bs [] f.here e → here ≡ f.here → e ≡ Misfit p
        by_why TooLong w split = absurd w
        by_why (Misfit q) w split = ap Misfit (place_is bs p q f.here low split w.0)
        by_why (BadNumber q) w split = let same : length run ≡ length (digits f.here) = ap (λ (x : List ℕ). length (digits x)) split in absurd (omega (arith, w.2))

        by_front : (front : List ℕ) → here ≡ front ++ f.here → Number B (front ++ f.begins.0) → (e : TextFault) → Why (Digits L) bs front f.here e → e ≡ Misfit p
        by_front [] split m e w = by_why e w split
        by_front (c ∷ front) split m e w = absurd (no_run (digit_same (c ∷ (front ++ f.begins.0)) here (sym (ap (λ (x : List ℕ). slice_get x 0) split)) (digits_first B _ (loosen _ m))))

    module _ (long : 1 ≤ length run) where
      cut : run ++ rest ≡ f.front ++ f.here
      cut = sym (digits_front here) ∙ f.split

      abbrev In : Type 0
      In = (d : ℕ) × (es : List ℕ) × (run ≡ f.front ++ d ∷ es) × (f.here ≡ d ∷ (es ++ rest))

      in_run : In → (e ≡ BadNumber p) × ((v : ℕ) → Numeral v run → ⊥)
      in_run s =
          let a = at_run bs run rest long (all_digits here) (run_end here) f.front s.0 s.1 f.here e s.2 s.3 f.why in
          let same : here ≡ f.here = f.split ∙ ap (λ (x : List ℕ). x ++ f.here) a.0 in
          (a.1.1 ∙ ap BadNumber (place_is bs p a.1.0 f.here low same a.1.2), subst (λ (x : List ℕ). (v : ℕ) → Numeral v (digits x) → ⊥) (sym same) a.1.3)

      begun_behind : (g : List ℕ) → f.front ≡ run ++ g → Number B (run ++ (g ++ f.begins.0))
      begun_behind g s = subst (Number B) (ap (λ (x : List ℕ). x ++ f.begins.0) s ∙ append_assoc run g f.begins.0) f.begins.1

      bad_there : fair (get_or run 0 0) (length run) ≡ false → e ≡ BadNumber p
      bad_there bad =
          ⊎_elim
          (λ s. absurd (false≢true (sym bad ∙ run_fair run (s.0 ++ f.begins.0) long (all_digits here) (begun_behind s.0 s.1))))
          (λ s. (in_run s).0)
          (splits run rest f.front f.here cut)

      behind_there : (v : ℕ) → Numeral v run → Faulty B L bs rest e
      behind_there v num =
          ⊎_elim
          (λ s. record {
            front = s.0;
            here = f.here;
            split = s.2;
            begins = behind_begins bs run rest long (all_digits here) (run_end here) s.0 f.here f.begins.0 s.2 (begun_behind s.0 s.1);
            why = behind_why bs run rest long (all_digits here) (run_end here) f.front s.0 f.here e s.1 f.why;
          })
          (λ s. absurd ((in_run s).1 v num))
          (splits run rest f.front f.here cut)

  pub number_cases : (bs : List ℕ) (p : ℕ) (e : TextFault) → p ≤ length bs → Faulty (Number B) (Digits L) bs (drop p bs) e
      → (number_at bs p ≡ Err e) ⊎ ((v : ℕ × ℕ) × (number_at bs p ≡ Ok v) × Faulty B L bs (drop v.1 bs) e)
  number_cases bs p e low f =
      let here = drop p bs in
      let run = digits here in
      let P : Result (ℕ × ℕ) TextFault → Type 0 = λ r. number_at bs p ≡ r → (number_at bs p ≡ Err e) ⊎ ((v : ℕ × ℕ) × (number_at bs p ≡ Ok v) × Faulty B L bs (drop v.1 bs) e) in
      cond_both (eqb (length run) 0) _ _ P
      (λ t r. inl (r ∙ (λ i. Err (sym (none_there bs p e low f (eqb-true _ _ t)) i))))
      (λ z.
      let some : length run ≡ 0 → ⊥ = eqb-false _ _ z in
      let long : 1 ≤ length run = omega arith in
      cond_both (fair (get_or run 0 0) (length run)) _ _ P
      (λ t ok.
      let v : ℕ × ℕ = (decimal 0 run, p + length run) in
      inr (v, ok, subst (λ (ts : List ℕ). Faulty B L bs ts e) (drop-drop (length run) p bs) (behind_there bs p e low f long v.0 (judge_back p v run (all_digits here) ok).0)))
      (λ g r. inl (r ∙ (λ i. Err (sym (bad_there bs p e low f long g) i)))))
      refl

-- a number, and the byte due after it
module _ (b : ℕ) (B L : List ℕ → Type 0) (begun : (xs : List ℕ) × B xs) (some : (xs : List ℕ) × L xs) (nd : is_digit b ≡ false) where
  pub item_told : {X : Type 0} (bs : List ℕ) (p : ℕ) (e : TextFault) (k : ℕ × ℕ → Result X TextFault) → p ≤ length bs → Faulty (Number (Byte b B)) (Digits (Byte b L)) bs (drop p bs) e
      → ((v : ℕ × ℕ) → item_at bs p b ≡ Ok v → Faulty B L bs (drop v.1 bs) e → k v ≡ Err e) → next (item_at bs p b) k ≡ Err e
  item_told {X} bs p e k low f more =
      let behind_number : ℕ × ℕ → Result X TextFault = λ v. next (next (expect_at bs v.1 b) (λ q. Ok (v.0, q))) k in
      next_next (number_at bs p) (λ v. next (expect_at bs v.1 b) (λ q. Ok (v.0, q))) k
      ∙ ⊎_elim
      (λ r. ap (λ (r : Result (ℕ × ℕ) TextFault). next r behind_number) r)
      (λ on.
      let v = on.0 in
      ap (λ (r : Result (ℕ × ℕ) TextFault). next r behind_number) on.1
      ∙ next_next (expect_at bs v.1 b) (λ q. Ok (v.0, q)) k
      ∙ expect_told b B L some nd bs v.1 e (λ q. k (v.0, q)) (number_within bs p v low on.1) on.2 (λ byte h. let number = on.1 in more (v.0, v.1 + 1) (grind (arith, number, byte)) h))
      (number_cases (Byte b B) (Byte b L) (b ∷ begun.0, (begun.0, refl, begun.1)) (b ∷ some.0, (some.0, refl, some.1)) (behind b L B nd) (behind b B L nd) bs p e low f)

-- Lines of numbers: what the reader accepts is what the grammar has. Assumes nothing.
use Rattle.std.proofs.Common.{◌≡◌, ℕ, zero, suc, ◌+◌, ◌-◌, ◌<◌, true, false, ◌&&◌, eqb, ltb, List, [], ◌∷◌, ◌++◌, length, get_or, drop, Ok, Result, sym, refl, ap, ◌∙◌, subst, add-zero, arith}
use Rattle.std.proofs.lemmas.List.{drop_at, get_or-drop, length-drop, drop-drop, drop_more}
use Rattle.std.proofs.lemmas.Bool.{cond-true, cond-false, cond_both, eq-eqb, eqb-true, ltb-true, lt-ltb, le-leb, and_from, and_parts}
use Rattle.std.proofs.lemmas.Bool.Decides.{nat_tests}
use Rattle.faults.specs.declared.text.TextFault.{TextFault}
use Rattle.text.specs.Numbers.{is_digit, AllDigits, digits, judged, number_at}
use Rattle.text.specs.Lines.{expect_at, item_at, numbers_at}
use Rattle.text.proofs.Digits.{all_digits}
use Rattle.text.proofs.Answers.{ok_same, in_test, next_ok}
use Rattle.aiger.specs.Grammar.{Numeral, NumberLine}

abbrev Read : Type 0
Read = Result (ℕ × ℕ) TextFault

-- a number

-- a run of digits ends before a byte that is none
digits_run : (ds : List ℕ) (x : ℕ) (rest : List ℕ) → AllDigits ds → is_digit x ≡ false → digits (ds ++ x ∷ rest) ≡ ds
digits_run [] x rest d e = cond-false _ _ _ e
digits_run (b ∷ ds) x rest d e =
    let is : is_digit b ≡ true = and_from _ _ (le-leb 48 b (d 0 (omega arith)).0) (le-leb b 57 (d 0 (omega arith)).1) in
    cond-true _ _ _ is ∙ ap (λ (l : List ℕ). b ∷ l) (digits_run ds x rest (λ k h. d (suc k) (omega arith)) e)

judge_numeral : (p v : ℕ) (ds : List ℕ) → Numeral v ds → judged p ds ≡ Ok (v, p + length ds)
judge_numeral p v ds n = grind (arith, nat_tests)

-- what stands from p on goes on after ds
rest_at : (p : ℕ) (bs ds rest : List ℕ) → drop p bs ≡ ds ++ rest → drop (p + length ds) bs ≡ rest
rest_at p bs ds rest e = sym (drop-drop (length ds) p bs) ∙ ap (drop (length ds)) e ∙ drop_at ds rest _ refl

pub number_read : (bs : List ℕ) (p v x : ℕ) (ds rest : List ℕ) → Numeral v ds → is_digit x ≡ false → drop p bs ≡ ds ++ x ∷ rest
    → (q : ℕ) × (number_at bs p ≡ Ok (v, q)) × (drop q bs ≡ x ∷ rest)
number_read bs p v x ds rest n nd e =
    (p + length ds, ap (λ (l : List ℕ). judged p (digits l)) e ∙ ap (judged p) (digits_run ds x rest n.digit nd) ∙ judge_numeral p v ds n, rest_at p bs ds (x ∷ rest) e)

pub digits_front : (bs : List ℕ) → bs ≡ digits bs ++ drop (length (digits bs)) bs
digits_front [] = refl
digits_front (b ∷ bs) =
    cond_both (is_digit b) (b ∷ digits bs) [] (λ (l : List ℕ). b ∷ bs ≡ l ++ drop (length l) (b ∷ bs)) (λ _. ap (λ (l : List ℕ). b ∷ l) (digits_front bs)) (λ _. refl)

pub judge_back : (p : ℕ) (v : ℕ × ℕ) (ds : List ℕ) → AllDigits ds → judged p ds ≡ Ok v → Numeral v.0 ds × (v.1 ≡ p + length ds)
judge_back p v ds d e = (
  record { some = grind (arith, nat_tests); few = grind (arith, nat_tests); digit = d; plain = λ z. grind (arith, nat_tests); value = grind (arith, nat_tests) },
  grind (arith, nat_tests),
)

pub number_back : (bs : List ℕ) (p : ℕ) (v : ℕ × ℕ) → number_at bs p ≡ Ok v → (ds : List ℕ) × Numeral v.0 ds × (drop p bs ≡ ds ++ drop v.1 bs)
number_back bs p v e =
    let ds = digits (drop p bs) in
    let j = judge_back p v ds (all_digits (drop p bs)) e in
    (ds, j.0, digits_front (drop p bs) ∙ ap (λ (l : List ℕ). ds ++ l) (drop-drop (length ds) p bs ∙ ap (λ (i : ℕ). drop i bs) (sym j.1)))

-- a byte that is due

pub first_of : (bs : List ℕ) (p x : ℕ) (rest : List ℕ) → drop p bs ≡ x ∷ rest → (p < length bs) × (get_or bs p 0 ≡ x)
first_of bs p x rest e =
    let long : length bs - p ≡ suc (length rest) = sym (length-drop p bs) ∙ ap length e in
    (omega arith, sym (get_or-drop p bs 0 0 ∙ ap (λ (i : ℕ). get_or bs i 0) (add-zero p)) ∙ ap (λ (l : List ℕ). get_or l 0 0) e)

pub one_on : (bs : List ℕ) (p x : ℕ) (rest : List ℕ) → drop p bs ≡ x ∷ rest → drop (p + 1) bs ≡ rest
one_on bs p x rest e = sym (drop-drop 1 p bs) ∙ ap (drop 1) e

pub expect_read : (bs : List ℕ) (p x : ℕ) (rest : List ℕ) → drop p bs ≡ x ∷ rest → (expect_at bs p x ≡ Ok (p + 1)) × (drop (p + 1) bs ≡ rest)
expect_read bs p x rest e =
    let at = first_of bs p x rest e in
    (cond-true _ _ _ (and_from (ltb p (length bs)) (eqb (get_or bs p 0) x) (lt-ltb _ _ at.0) (eq-eqb _ _ at.1)), one_on bs p x rest e)

pub expect_back : (bs : List ℕ) (p x q : ℕ) → expect_at bs p x ≡ Ok q → drop p bs ≡ x ∷ drop q bs
expect_back bs p x q e =
    let t = in_test (ltb p (length bs) && eqb (get_or bs p 0) x) _ _ _ e in
    let both = and_parts (ltb p (length bs)) (eqb (get_or bs p 0) x) t.0 in
    let same = ok_same (p + 1) q t.1 in
    drop_more bs p 0 (ltb-true _ _ both.0) ∙ (λ i. eqb-true _ _ both.1 i ∷ drop (same i) bs)

-- a number and the byte due after it

item_read : (bs : List ℕ) (p v x : ℕ) (ds rest : List ℕ) → Numeral v ds → is_digit x ≡ false → drop p bs ≡ ds ++ x ∷ rest
    → (q : ℕ) × (item_at bs p x ≡ Ok (v, q)) × (drop q bs ≡ rest)
item_read bs p v x ds rest n nd e =
    let a = number_read bs p v x ds rest n nd e in
    let b = expect_read bs a.0 x rest a.2 in
    (a.0 + 1, grind (arith, a.1, b.0), b.1)

item_back : (bs : List ℕ) (p x : ℕ) (v : ℕ × ℕ) → item_at bs p x ≡ Ok v → (ds : List ℕ) × Numeral v.0 ds × (drop p bs ≡ ds ++ x ∷ drop v.1 bs)
item_back bs p x v e =
    let n = next_ok (number_at bs p) _ v e in
    let t = next_ok (expect_at bs n.0.1 x) _ v n.2 in
    let same = ok_same (n.0.0, t.0) v t.2 in
    let a = number_back bs p n.0 n.1 in (
      a.0,
      subst (λ (w : ℕ). Numeral w a.0) (ap (λ (x : ℕ × ℕ). x.0) same) a.1,
      a.2 ∙ ap (λ (l : List ℕ). a.0 ++ l) (expect_back bs n.0.1 x t.0 t.1 ∙ ap (λ (w : ℕ × ℕ). x ∷ drop w.1 bs) same),
    )

-- a line

pub number_line_read : (bs : List ℕ) (p v : ℕ) (rest : List ℕ) → NumberLine (v ∷ []) (drop p bs) rest → (q : ℕ) × (item_at bs p 10 ≡ Ok (v, q)) × (drop q bs ≡ rest)
number_line_read bs p v rest (ds, num, e) = item_read bs p v 10 ds rest num refl e

pub number_line_back : (bs : List ℕ) (p : ℕ) (v : ℕ × ℕ) → item_at bs p 10 ≡ Ok v → NumberLine (v.0 ∷ []) (drop p bs) (drop v.1 bs)
number_line_back bs p v e = item_back bs p 10 v e

pub numbers_read : (vs : List ℕ) (v : ℕ) (bs : List ℕ) (p : ℕ) (rest : List ℕ) → NumberLine (v ∷ vs) (drop p bs) rest
    → (q : ℕ) × (numbers_at bs p (length vs) ≡ Ok (v ∷ vs, q)) × (drop q bs ≡ rest)
numbers_read [] v bs p rest (ds, num, e) =
    let a = item_read bs p v 10 ds rest num refl e in
    (a.0, grind (arith, a.1), a.2)
numbers_read (w ∷ vs) v bs p rest (ds, mid, num, e, more) =
    let a = item_read bs p v 32 ds mid num refl e in
    let b = numbers_read vs w bs a.0 rest (subst (λ (l : List ℕ). NumberLine (w ∷ vs) l rest) (sym a.2) more) in (
      b.0,
      grind (arith, a.1, b.1),
      b.2,
    )

pub before : (v : ℕ) (vs ds ts mid rest : List ℕ) → Numeral v ds → ts ≡ ds ++ 32 ∷ mid → NumberLine vs mid rest → NumberLine (v ∷ vs) ts rest
before v [] ds ts mid rest num e more = absurd more
before v (w ∷ vs) ds ts mid rest num e more = (ds, mid, num, e, more)

pub numbers_back : (more : ℕ) (bs : List ℕ) (p : ℕ) (r : List ℕ × ℕ) → numbers_at bs p more ≡ Ok r → NumberLine r.0 (drop p bs) (drop r.1 bs)
numbers_back zero bs p r e =
    let v = next_ok (item_at bs p 10) _ r e in
    subst (λ (r : List ℕ × ℕ). NumberLine r.0 (drop p bs) (drop r.1 bs)) (ok_same (v.0.0 ∷ [], v.0.1) r v.2) (item_back bs p 10 v.0 v.1)
numbers_back (suc more) bs p r e =
    let v = next_ok (item_at bs p 32) _ r e in
    let vs = next_ok (numbers_at bs v.0.1 more) _ r v.2 in
    let a = item_back bs p 32 v.0 v.1 in
    subst (λ (r : List ℕ × ℕ). NumberLine r.0 (drop p bs) (drop r.1 bs)) (ok_same (v.0.0 ∷ vs.0.0, vs.0.1) r vs.2)
    (before v.0.0 vs.0.0 a.0 (drop p bs) (drop v.0.1 bs) (drop vs.0.1 bs) a.1 a.2 (numbers_back more bs v.0.1 vs.0 vs.1))

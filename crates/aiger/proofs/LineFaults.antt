-- Lines of numbers: where one is refused it is malformed. Assumes nothing.
use Rattle.std.proofs.Common.{◌≡◌, ℕ, zero, suc, ◌+◌, ◌*◌, ◌≤◌, false, ◌&&◌, eqb, ltb, List, [], ◌∷◌, ◌++◌, length, get_or, drop, Some, Ok, Err, Result, slice_get, sym, refl, ap, ◌∙◌, subst, inl, ⊎_elim, arith}
use Rattle.std.proofs.lemmas.List.{length-drop}
use Rattle.std.proofs.lemmas.Bool.{ltb-true, and_parts, cond_both}
use Rattle.faults.specs.declared.text.TextFault.{TextFault}
use Rattle.faults.specs.declared.text.TextFault.TheVariants.{Misfit}
use Rattle.text.specs.Numbers.{is_digit, digits, number_at}
use Rattle.text.specs.Lines.{expect_at, item_at, numbers_at, word_at, header_at}
use Rattle.text.specs.Runs.{next}
use Rattle.text.proofs.Answers.{ok_same, err_same, after_test, in_test, next_ok, next_err, of_five}
use Rattle.text.proofs.Digits.{all_digits}
use Rattle.faults.specs.declared.circuit.CircuitFault.TheVariants.{Text}
use Rattle.aiger.specs.FaultLines.{located_at, located_in}
use Rattle.aiger.specs.Lines.{header_in, header_read, inputs_at, output_at, gate_in, gate_at}
use Rattle.aiger.specs.Grammar.{NumberLine}
use Rattle.aiger.specs.Malformed.{header, numbers, Begins, Anything, Byte, Digits, DigitLine, Loose}
use Rattle.aiger.specs.declared.header.Header.{Header}
use Rattle.aiger.specs.declared.gates.Gate.{Gate}
use Rattle.aiger.proofs.Carried.{up_ok, told_ok}
use Rattle.aiger.proofs.NumberTexts.{before, judge_back, expect_read, expect_back}
use Rattle.aiger.proofs.HeaderTexts.{word_back}
use Rattle.aiger.proofs.Pieces.{Faulty, shift, byte_stuck, byte_on, Number, nought, number_stuck, number_on}

-- the places stay within the file

pub expect_within : (bs : List ℕ) (p b q : ℕ) → expect_at bs p b ≡ Ok q → q ≤ length bs
expect_within bs p b q e =
    let t = in_test (ltb p (length bs) && eqb (get_or bs p 0) b) _ _ _ e in
    let low = ltb-true _ _ (and_parts (ltb p (length bs)) (eqb (get_or bs p 0) b) t.0).0 in
    let same = ok_same (p + 1) q t.1 in
    omega arith

pub item_within : (bs : List ℕ) (p b : ℕ) (v : ℕ × ℕ) → item_at bs p b ≡ Ok v → v.1 ≤ length bs
item_within bs p b v e =
    let n = next_ok (number_at bs p) _ v e in
    let t = next_ok (expect_at bs n.0.1 b) _ v n.2 in
    subst (λ (w : ℕ × ℕ). w.1 ≤ length bs) (ok_same (n.0.0, t.0) v t.2) (expect_within bs n.0.1 b t.0 t.1)

pub numbers_within : (n : ℕ) (bs : List ℕ) (p : ℕ) (r : List ℕ × ℕ) → numbers_at bs p n ≡ Ok r → r.1 ≤ length bs
numbers_within zero bs p r e =
    let v = next_ok (item_at bs p 10) _ r e in
    subst (λ (r : List ℕ × ℕ). r.1 ≤ length bs) (ok_same (v.0.0 ∷ [], v.0.1) r v.2) (item_within bs p 10 v.0 v.1)
numbers_within (suc n) bs p r e =
    let v = next_ok (item_at bs p 32) _ r e in
    let vs = next_ok (numbers_at bs v.0.1 n) _ r v.2 in
    subst (λ (r : List ℕ × ℕ). r.1 ≤ length bs) (ok_same (v.0.0 ∷ vs.0.0, vs.0.1) r vs.2) (numbers_within n bs v.0.1 vs.0 vs.1)

digits_few : (ts : List ℕ) → length (digits ts) ≤ length ts
digits_few [] = omega arith
digits_few (b ∷ ts) = cond_both (is_digit b) (b ∷ digits ts) [] (λ (l : List ℕ). length l ≤ suc (length ts)) (λ _. let few = digits_few ts in omega arith) (λ _. omega arith)

pub gate_within : (bs : List ℕ) (p : ℕ) (g : Gate × ℕ) → gate_at bs p ≡ Ok g → g.1 ≤ length bs
gate_within bs p g e =
    let v = next_ok (numbers_at bs p 2) _ g e in
    subst (λ (g : Gate × ℕ). g.1 ≤ length bs) (ok_same (gate_in v.0.0, v.0.1) g v.2) (numbers_within 2 bs p v.0 v.1)

pub header_within : (bs : List ℕ) (h : Header × ℕ) → header_read bs ≡ Ok h → h.1 ≤ length bs
header_within bs h e =
    let v = next_ok (header_at bs) _ h e in
    let p = next_ok (word_at bs) _ v.0 v.1 in
    subst (λ (h : Header × ℕ). h.1 ≤ length bs) (ok_same (header_in v.0.0, v.0.1) h v.2) (numbers_within 4 bs p.0 v.0 p.2)

pub inputs_within : (n k p q : ℕ) (bs : List ℕ) → p ≤ length bs → inputs_at bs p k n ≡ Ok q → q ≤ length bs
inputs_within zero k p q bs low e = subst (λ (q : ℕ). q ≤ length bs) (ok_same p q e) low
inputs_within (suc n) k p q bs low e =
    let l = up_ok Text (located_in bs (item_at bs p 10)) _ q e in
    let t = in_test (eqb l.0.0 (2 * k)) _ _ _ l.2 in
    inputs_within n (k + 1) l.0.1 q bs (item_within bs p 10 l.0 (told_ok (located_at bs) _ _ l.1)) t.1

pub output_within : (bs : List ℕ) (p hi i : ℕ) (v : ℕ × ℕ) → output_at bs p hi i ≡ Ok v → v.1 ≤ length bs
output_within bs p hi i v e =
    let l = up_ok Text (located_in bs (item_at bs p 10)) _ v e in
    let t = after_test (ltb (2 * hi + 1) l.0.0) _ _ _ l.2 in
    subst (λ (v : ℕ × ℕ). v.1 ≤ length bs) (ok_same l.0 v t.1) (item_within bs p 10 l.0 (told_ok (located_at bs) _ _ l.1))

pub number_within : (bs : List ℕ) (p : ℕ) (v : ℕ × ℕ) → p ≤ length bs → number_at bs p ≡ Ok v → v.1 ≤ length bs
number_within bs p v h e =
    let ds = digits (drop p bs) in
    let j = judge_back p v ds (all_digits (drop p bs)) e in
    omega (arith, j.1, digits_few (drop p bs), length-drop p bs)

pub ok_not_err : (x : ℕ) (e : TextFault) → ◌≡◌ {A = Result ℕ TextFault} (Ok x) (Err e) → ⊥
ok_not_err x e h = cc

pub first_split : (ts : List ℕ) (b : ℕ) → slice_get ts 0 ≡ Some b → (rest : List ℕ) × (ts ≡ b ∷ rest)
first_split [] b s = cc
first_split (x ∷ ts) b s = (ts, cc)

-- a byte that is due

module _ (b : ℕ) (B L : List ℕ → Type 0) where
  expect_err : (bs : List ℕ) (p : ℕ) (e : TextFault) → p ≤ length bs → (xs : List ℕ) × B xs → expect_at bs p b ≡ Err e → Faulty (Byte b B) (Byte b L) bs (drop p bs) e
  expect_err bs p e h some r =
      let other : slice_get (drop p bs) 0 ≡ Some b → ⊥ = λ s. let f = first_split (drop p bs) b s in let ok = expect_read bs p b f.0 f.1 in ok_not_err (p + 1) e (sym ok.0 ∙ r) in
      cond_both (ltb p (length bs) && eqb (get_or bs p 0) b) _ _ (λ (a : Result ℕ TextFault). a ≡ Err e → Faulty (Byte b B) (Byte b L) bs (drop p bs) e)
      (λ t a. absurd (ok_not_err (p + 1) e a))
      (λ f a. subst (Faulty (Byte b B) (Byte b L) bs (drop p bs)) (err_same (Misfit p) e a) (byte_stuck b B L bs p h some other)) r

  expect_on : (bs : List ℕ) (p q : ℕ) (e : TextFault) → expect_at bs p b ≡ Ok q → Faulty B L bs (drop q bs) e → Faulty (Byte b B) (Byte b L) bs (drop p bs) e
  expect_on bs p q e r f = subst (λ (ts : List ℕ). Faulty (Byte b B) (Byte b L) bs ts e) (sym (expect_back bs p b q r)) (byte_on b B L bs (drop q bs) e f)

  expect_next : {X : Type 0} (bs : List ℕ) (p : ℕ) (e : TextFault) (k : ℕ → Result X TextFault) → p ≤ length bs → (xs : List ℕ) × B xs
      → ((q : ℕ) → q ≤ length bs → k q ≡ Err e → Faulty B L bs (drop q bs) e) → next (expect_at bs p b) k ≡ Err e → Faulty (Byte b B) (Byte b L) bs (drop p bs) e
  expect_next bs p e k h some f r =
      ⊎_elim (expect_err bs p e h some) (λ q. expect_on bs p q.0 e q.1 (f q.0 (expect_within bs p b q.0 q.1) q.2)) (next_err (expect_at bs p b) k e r)

  -- a number, and the byte due after it

  module _ (nd : is_digit b ≡ false) where
    pub behind : (d : ℕ) (xs : List ℕ) → Byte b L (d ∷ xs) → is_digit d ≡ false
    behind d xs (rest, e, l) = ap is_digit (ap (λ (x : List ℕ). get_or x 0 0) e) ∙ nd

    item_err : (bs : List ℕ) (p : ℕ) (e : TextFault) → p ≤ length bs → (xs : List ℕ) × B xs → item_at bs p b ≡ Err e → Faulty (Number (Byte b B)) (Digits (Byte b L)) bs (drop p bs) e
    item_err bs p e h some r =
        ⊎_elim
        (number_stuck (Byte b B) (Byte b L) bs p e h (b ∷ some.0, (some.0, refl, some.1)))
        (λ n. number_on (Byte b B) (Byte b L) bs p n.0 e behind n.1
        (⊎_elim (expect_err bs n.0.1 e (number_within bs p n.0 h n.1) some) (λ t. cc) (next_err (expect_at bs n.0.1 b) _ e n.2)))
        (next_err (number_at bs p) _ e r)

    item_on : (bs : List ℕ) (p : ℕ) (v : ℕ × ℕ) (e : TextFault) → item_at bs p b ≡ Ok v → Faulty B L bs (drop v.1 bs) e → Faulty (Number (Byte b B)) (Digits (Byte b L)) bs (drop p bs) e
    item_on bs p v e r f =
        let n = next_ok (number_at bs p) _ v r in
        let t = next_ok (expect_at bs n.0.1 b) _ v n.2 in
        let same : t.0 ≡ v.1 = ap (λ (w : ℕ × ℕ). w.1) (ok_same (n.0.0, t.0) v t.2) in
        number_on (Byte b B) (Byte b L) bs p n.0 e behind n.1 (expect_on bs n.0.1 v.1 e (subst (λ (q : ℕ). expect_at bs n.0.1 b ≡ Ok q) same t.1) f)

-- a line of numbers

abbrev pub Plain : ℕ → List ℕ → Type 0
Plain zero = Number (Byte 10 Anything)
Plain (suc n) = Number (Byte 32 (Plain n))

pub plain_some : (n : ℕ) → (xs : List ℕ) × Plain n xs
plain_some zero = (48 ∷ 10 ∷ [], (0, 48 ∷ [], 10 ∷ [], nought, refl, ([], refl, tt)))
plain_some (suc n) = let more = plain_some n in (48 ∷ 32 ∷ more.0, (0, 48 ∷ [], 32 ∷ more.0, nought, refl, (more.0, refl, more.1)))

plain_begins : (n : ℕ) (xs : List ℕ) → Plain n xs → Begins (numbers n) xs
plain_begins zero xs (v, ds, ts, num, e, (rest, f, m)) = (v ∷ [], rest, refl, (ds, num, e ∙ ap (λ (x : List ℕ). ds ++ x) f))
plain_begins (suc n) xs (v, ds, ts, num, e, (mid, f, m)) =
    let b = plain_begins n mid m in
    (v ∷ b.0, b.1, ap suc b.2, before v b.0 ds xs mid b.1 num (e ∙ ap (λ (x : List ℕ). ds ++ x) f) b.3)

plain_err : (n : ℕ) (bs : List ℕ) (p : ℕ) (e : TextFault) → p ≤ length bs → numbers_at bs p n ≡ Err e → Faulty (Plain n) (DigitLine n) bs (drop p bs) e
plain_err zero bs p e h r =
    ⊎_elim (item_err 10 Anything Anything refl bs p e h ([], tt)) (λ n. cc) (next_err (item_at bs p 10) _ e r)
plain_err (suc n) bs p e h r =
    ⊎_elim
    (item_err 32 (Plain n) (DigitLine n) refl bs p e h (plain_some n))
    (λ v. ⊎_elim
    (λ m. item_on 32 (Plain n) (DigitLine n) refl bs p v.0 e v.1 (plain_err n bs v.0.1 e (item_within bs p 32 v.0 v.1) m))
    (λ w. cc)
    (next_err (numbers_at bs v.0.1 n) _ e v.2))
    (next_err (item_at bs p 32) _ e r)

-- what is malformed in one way of beginning is so in a wider one
pub widen : (B L C : List ℕ → Type 0) → ((xs : List ℕ) → B xs → C xs) → (bs ts : List ℕ) (e : TextFault) → Faulty B L bs ts e → Faulty C L bs ts e
widen B L C wider bs ts e f = shift C L B L [] ts wider (λ xs l. inl l) bs e f

pub numbers_err : (n : ℕ) (bs : List ℕ) (p : ℕ) (e : TextFault) → p ≤ length bs → numbers_at bs p n ≡ Err e → Faulty (Begins (numbers n)) (Loose (numbers n)) bs (drop p bs) e
numbers_err n bs p e h r = widen (Plain n) (DigitLine n) (Begins (numbers n)) (plain_begins n) bs (drop p bs) e (plain_err n bs p e h r)

pub literal_err : (bs : List ℕ) (p : ℕ) (e : TextFault) → p ≤ length bs → item_at bs p 10 ≡ Err e → Faulty (Begins (numbers 0)) (Loose (numbers 0)) bs (drop p bs) e
literal_err bs p e h r = numbers_err 0 bs p e h (ap (λ (a : Result (ℕ × ℕ) TextFault). next a (λ v. Ok (v.0 ∷ [], v.1))) r)

pub gate_err : (bs : List ℕ) (p : ℕ) (e : TextFault) → p ≤ length bs → gate_at bs p ≡ Err e → Faulty (Begins (numbers 2)) (Loose (numbers 2)) bs (drop p bs) e
gate_err bs p e h r = ⊎_elim (numbers_err 2 bs p e h) (λ v. cc) (next_err (numbers_at bs p 2) _ e r)

-- the header

abbrev pub Spelt : List ℕ → Type 0
Spelt = Byte 97 (Byte 97 (Byte 103 (Byte 32 (Plain 4))))

spelt_begins : (xs : List ℕ) → Spelt xs → Begins header xs
spelt_begins xs (a, ea, (b, eb, (c, ec, (d, ed, m)))) =
    let l = plain_begins 4 d m in
    of_five (λ vs. NumberLine vs d l.1 → Begins header xs)
    (λ v i k o g line. (
      record { highest = v; inputs = i; latches = k; outputs = o; gates = g },
      l.1,
      (d, ea ∙ ap (λ (x : List ℕ). 97 ∷ x) (eb ∙ ap (λ (x : List ℕ). 97 ∷ x) (ec ∙ ap (λ (x : List ℕ). 103 ∷ x) ed)), line),
    ))
    l.0 l.2 l.3

pub byte_some : (b : ℕ) (B : List ℕ → Type 0) → (xs : List ℕ) × B xs → (xs : List ℕ) × Byte b B xs
byte_some b B some = (b ∷ some.0, (some.0, refl, some.1))

word_err : (bs : List ℕ) (e : TextFault) → word_at bs ≡ Err e → Faulty Spelt (Loose header) bs bs e
word_err bs e r =
    let some4 = plain_some 4 in
    let some3 = byte_some 32 (Plain 4) some4 in
    let some2 = byte_some 103 _ some3 in
    expect_next 97 _ _ bs 0 e _ (omega arith) (byte_some 97 _ some2)
    (λ p h r. expect_next 97 _ _ bs p e _ h some2
    (λ q h r. expect_next 103 (Byte 32 (Plain 4)) (Byte 32 (DigitLine 4)) bs q e _ h some3 (λ s h r. expect_err 32 (Plain 4) (DigitLine 4) bs s e h some4 r) r) r) r

word_within : (bs : List ℕ) (p : ℕ) → word_at bs ≡ Ok p → p ≤ length bs
word_within bs p e =
    let w1 = next_ok (expect_at bs 0 97) _ p e in
    let w2 = next_ok (expect_at bs w1.0 97) _ p w1.2 in
    let w3 = next_ok (expect_at bs w2.0 103) _ p w2.2 in
    expect_within bs w3.0 32 p w3.2

spelt_err : (bs : List ℕ) (e : TextFault) → header_at bs ≡ Err e → Faulty Spelt (Loose header) bs bs e
spelt_err bs e r =
    ⊎_elim (word_err bs e)
    (λ p.
    let front = word_back bs p.0 p.1 in
    subst (λ (ts : List ℕ). Faulty Spelt (Loose header) bs ts e) (sym front)
    (byte_on 97 _ _ bs _ e (byte_on 97 _ _ bs _ e (byte_on 103 _ _ bs _ e (byte_on 32 (Plain 4) (DigitLine 4) bs (drop p.0 bs) e (plain_err 4 bs p.0 e (word_within bs p.0 p.1) p.2))))))
    (next_err (word_at bs) _ e r)

pub header_err : (bs : List ℕ) (e : TextFault) → header_read bs ≡ Err e → Faulty (Begins header) (Loose header) bs bs e
header_err bs e r = widen Spelt (Loose header) (Begins header) spelt_begins bs bs e (⊎_elim (spelt_err bs e) (λ v. cc) (next_err (header_at bs) _ e r))

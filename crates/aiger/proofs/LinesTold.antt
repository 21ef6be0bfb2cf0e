-- Lines of numbers: where one is malformed the reader refuses it, and tells why. Assumes nothing.
use Rattle.std.proofs.Common.{◌≡◌, ℕ, zero, suc, ◌≤◌, List, [], ◌∷◌, length, drop, Ok, Err, Result, sym, refl, ap, ◌∙◌, arith}
use Rattle.faults.specs.declared.text.TextFault.{TextFault}
use Rattle.faults.specs.declared.text.TextFault.TheVariants.{TooLong, Misfit, BadNumber}
use Rattle.text.specs.Lines.{expect_at, item_at, numbers_at, header_at}
use Rattle.text.specs.Runs.{next}
use Rattle.text.proofs.Answers.{next_next, next_id}
use Rattle.aiger.specs.Lines.{header_in, header_read, gate_in, gate_at}
use Rattle.aiger.specs.Grammar.{NumberLine}
use Rattle.aiger.specs.Malformed.{header, numbers, Begins, Anything, Byte, DigitLine, Loose, Why}
use Rattle.aiger.proofs.LineFaults.{Plain, plain_some, Spelt, byte_some, widen, expect_within, item_within}
use Rattle.aiger.proofs.Pieces.{Faulty, none_some}
use Rattle.aiger.proofs.PiecesTold.{expect_told, item_told}

-- nothing is wrong where anything may stand
pub nothing_wrong : (bs ts : List ℕ) (e : TextFault) → Faulty Anything Anything bs ts e → ⊥
nothing_wrong bs ts e f = by_why e f.why
  where
    by_why : (e : TextFault) → Why Anything bs f.front f.here e → ⊥
    by_why TooLong w = w
    by_why (Misfit q) w = w.1 f.here tt refl
    by_why (BadNumber q) w = let d = w.1 [] tt in none_some d.0 d.1

plain_loose : (n : ℕ) (xs : List ℕ) → Plain n xs → DigitLine n xs
plain_loose zero xs (v, ds, rest, num, e, m) = (ds, rest, num.some, num.digit, e, m)
plain_loose (suc n) xs (v, ds, rest, num, e, (mid, f, m)) = (ds, rest, num.some, num.digit, e, (mid, f, plain_loose n mid m))

loose_some : (n : ℕ) → (xs : List ℕ) × DigitLine n xs
loose_some n = let p = plain_some n in (p.0, plain_loose n p.0 p.1)

begins_plain : (n : ℕ) (vs xs rest : List ℕ) → length vs ≡ suc n → NumberLine vs xs rest → Plain n xs
begins_plain n [] xs rest size line = absurd line
begins_plain zero (v ∷ []) xs rest size (ds, num, e) = (v, ds, 10 ∷ rest, num, e, (rest, refl, tt))
begins_plain zero (v ∷ w ∷ vs) xs rest size line = absurd (omega arith)
begins_plain (suc n) (v ∷ []) xs rest size line = absurd (omega arith)
begins_plain (suc n) (v ∷ w ∷ vs) xs rest size (ds, mid, num, e, line) = (v, ds, 32 ∷ mid, num, e, (mid, refl, begins_plain n (w ∷ vs) mid rest (omega arith) line))

plain_told : (n : ℕ) (bs : List ℕ) (p : ℕ) (e : TextFault) → p ≤ length bs → Faulty (Plain n) (DigitLine n) bs (drop p bs) e → numbers_at bs p n ≡ Err e
plain_told zero bs p e low f = item_told 10 Anything Anything ([], tt) ([], tt) refl bs p e _ low f (λ v ok g. absurd (nothing_wrong bs (drop v.1 bs) e g))
plain_told (suc n) bs p e low f =
    item_told 32 (Plain n) (DigitLine n) (plain_some n) (loose_some n) refl bs p e _ low f
    (λ v ok g. ap (λ (r : Result (List ℕ × ℕ) TextFault). next r (λ vs. Ok (v.0 ∷ vs.0, vs.1))) (plain_told n bs v.1 e (item_within bs p 32 v ok) g))

abbrev pub Line : ℕ → List ℕ → List ℕ → TextFault → Type 0
Line n bs ts e = Faulty (Begins (numbers n)) (Loose (numbers n)) bs ts e

numbers_told : (n : ℕ) (bs : List ℕ) (p : ℕ) (e : TextFault) → p ≤ length bs → Line n bs (drop p bs) e → numbers_at bs p n ≡ Err e
numbers_told n bs p e low f = plain_told n bs p e low (widen (Begins (numbers n)) (DigitLine n) (Plain n) (λ xs b. begins_plain n b.0 xs b.1 b.2 b.3) bs (drop p bs) e f)

pub literal_told : (bs : List ℕ) (p : ℕ) (e : TextFault) → p ≤ length bs → Line 0 bs (drop p bs) e → item_at bs p 10 ≡ Err e
literal_told bs p e low f =
    sym (next_id (item_at bs p 10))
    ∙ item_told 10 Anything Anything ([], tt) ([], tt) refl bs p e _ low (widen (Begins (numbers 0)) (DigitLine 0) (Plain 0) (λ xs b. begins_plain 0 b.0 xs b.1 b.2 b.3) bs (drop p bs) e f)
    (λ v ok g. absurd (nothing_wrong bs (drop v.1 bs) e g))

pub gate_told : (bs : List ℕ) (p : ℕ) (e : TextFault) → p ≤ length bs → Line 2 bs (drop p bs) e → gate_at bs p ≡ Err e
gate_told bs p e low f = ap (λ (r : Result (List ℕ × ℕ) TextFault). next r (λ v. Ok (gate_in v.0, v.1))) (numbers_told 2 bs p e low f)

-- the header

begins_spelt : (xs : List ℕ) → Begins header xs → Spelt xs
begins_spelt xs (h, rest, (mid, text, line)) =
    (97 ∷ 103 ∷ 32 ∷ mid, text, (103 ∷ 32 ∷ mid, refl, (32 ∷ mid, refl, (mid, refl, begins_plain 4 (h.highest ∷ h.inputs ∷ h.latches ∷ h.outputs ∷ h.gates ∷ []) mid rest refl line))))

spelt_told : (bs : List ℕ) (e : TextFault) → Faulty Spelt (Loose header) bs bs e → header_at bs ≡ Err e
spelt_told bs e f =
    let some4 = loose_some 4 in
    let some3 = byte_some 32 (DigitLine 4) some4 in
    let some2 = byte_some 103 _ some3 in
    let blank : ℕ → Result ℕ TextFault = λ r. expect_at bs r 32 in
    let g_blank : ℕ → Result ℕ TextFault = λ q. next (expect_at bs q 103) blank in
    let more : ℕ → Result (List ℕ × ℕ) TextFault = λ p. numbers_at bs p 4 in
    next_next (expect_at bs 0 97) (λ p. next (expect_at bs p 97) g_blank) more
    ∙ expect_told 97 _ _ (byte_some 97 _ some2) refl bs 0 e _ (omega arith) f (λ ok1 f1.
    next_next (expect_at bs 1 97) g_blank more
    ∙ expect_told 97 _ _ some2 refl bs 1 e _ (expect_within bs 0 97 1 ok1) f1 (λ ok2 f2.
    next_next (expect_at bs 2 103) blank more
    ∙ expect_told 103 (Byte 32 (Plain 4)) (Byte 32 (DigitLine 4)) some3 refl bs 2 e _ (expect_within bs 1 97 2 ok2) f2 (λ ok3 f3.
    expect_told 32 (Plain 4) (DigitLine 4) some4 refl bs 3 e more (expect_within bs 2 103 3 ok3) f3 (λ ok4 f4. plain_told 4 bs 4 e (expect_within bs 3 32 4 ok4) f4))))

pub header_told : (bs : List ℕ) (e : TextFault) → Faulty (Begins header) (Loose header) bs bs e → header_read bs ≡ Err e
header_told bs e f =
    ap (λ (r : Result (List ℕ × ℕ) TextFault). next r (λ v. Ok (header_in v.0, v.1))) (spelt_told bs e (widen (Begins header) (Loose header) Spelt begins_spelt bs bs e f))

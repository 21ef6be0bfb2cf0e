-- The header: what the reader accepts is what the grammar has, within the limits. Assumes nothing.
use Rattle.std.proofs.Common.{◌≡◌, ℕ, List, [], ◌∷◌, drop, Ok, sym, refl, ap, ◌∙◌, subst, arith}
use Rattle.std.proofs.lemmas.Bool.Decides.{nat_tests}
use Rattle.text.specs.Lines.{expect_at, word_at, header_at}
use Rattle.text.proofs.Answers.{ok_same, next_ok, of_five}
use Rattle.text.proofs.LineRun.{numbers_count}
use Rattle.aiger.specs.Lines.{Within, header_in, header_read, header_fits}
use Rattle.aiger.specs.Grammar.{NumberLine, HeaderLine}
use Rattle.aiger.specs.declared.header.Header.{Header}
use Rattle.aiger.proofs.NumberTexts.{expect_read, expect_back, numbers_read, numbers_back}

abbrev fields : Header → List ℕ
fields h = h.highest ∷ h.inputs ∷ h.latches ∷ h.outputs ∷ h.gates ∷ []

pub header_read_lem : (bs : List ℕ) (h : Header) (rest : List ℕ) → HeaderLine h bs rest → (q : ℕ) × (header_read bs ≡ Ok (h, q)) × (drop q bs ≡ rest)
header_read_lem bs h rest (mid, text, line) =
    let w1 = expect_read bs 0 97 _ text in
    let w2 = expect_read bs 1 97 _ w1.1 in
    let w3 = expect_read bs 2 103 _ w2.1 in
    let w4 = expect_read bs 3 32 _ w3.1 in
    let a = numbers_read (h.inputs ∷ h.latches ∷ h.outputs ∷ h.gates ∷ []) h.highest bs 4 rest (subst (λ (l : List ℕ). NumberLine (fields h) l rest) (sym w4.1) line) in
    let word : word_at bs ≡ Ok 4 = grind (arith, w1.0, w2.0, w3.0, w4.0) in (
      a.0,
      grind (arith, word, a.1),
      a.2,
    )

pub word_back : (bs : List ℕ) (p : ℕ) → word_at bs ≡ Ok p → bs ≡ 97 ∷ 97 ∷ 103 ∷ 32 ∷ drop p bs
word_back bs p e =
    let w1 = next_ok (expect_at bs 0 97) _ p e in
    let w2 = next_ok (expect_at bs w1.0 97) _ p w1.2 in
    let w3 = next_ok (expect_at bs w2.0 103) _ p w2.2 in
    expect_back bs 0 97 w1.0 w1.1
    ∙ ap (λ (l : List ℕ). 97 ∷ l) (expect_back bs w1.0 97 w2.0 w2.1
    ∙ ap (λ (l : List ℕ). 97 ∷ l) (expect_back bs w2.0 103 w3.0 w3.1
    ∙ ap (λ (l : List ℕ). 103 ∷ l) (expect_back bs w3.0 32 p w3.2)))

pub header_back : (bs : List ℕ) (h : Header × ℕ) → header_read bs ≡ Ok h → HeaderLine h.0 bs (drop h.1 bs)
header_back bs h e =
    let v = next_ok (header_at bs) _ h e in
    let p = next_ok (word_at bs) _ v.0 v.1 in
    let all : fields (header_in v.0.0) ≡ v.0.0 = of_five (λ l. fields (header_in l) ≡ l) (λ a b c d f. refl) v.0.0 (numbers_count 4 bs p.0 v.0 p.2) in
    subst (λ (h : Header × ℕ). HeaderLine h.0 bs (drop h.1 bs)) (ok_same (header_in v.0.0, v.0.1) h v.2) (
      drop p.0 bs,
      word_back bs p.0 p.1,
      subst (λ (l : List ℕ). NumberLine l (drop p.0 bs) (drop v.0.1 bs)) (sym all) (numbers_back 4 bs p.0 v.0 p.2),
    )

pub limits_read : (h : Header) (w : ℕ) → Within h w → header_fits h w ≡ Ok tt
limits_read h w t = grind (arith, nat_tests)

pub limits_back : (h : Header) (w : ℕ) (u : Unit {0}) → header_fits h w ≡ Ok u → Within h w
limits_back h w u e = record {
  some = grind (arith, nat_tests);
  inputs = grind (arith, nat_tests);
  latches = grind (arith, nat_tests);
  outputs = grind (arith, nat_tests);
  gates = grind (arith, nat_tests);
  highest = grind (arith, nat_tests);
  room = grind (arith, nat_tests);
}

-- How many newlines the lines of the grammar have. Assumes nothing.
use Rattle.std.proofs.Common.{◌≡◌, ℕ, zero, suc, ◌+◌, ◌-◌, ◌*◌, false, cond, eqb, List, [], ◌∷◌, ◌++◌, length, drop, take, sym, refl, ap, ◌∙◌, subst, append_assoc, codes, arith}
use Rattle.std.proofs.lemmas.List.{length-append, length-drop}
use Rattle.std.proofs.lemmas.List.Sums.{sum_by-append, sum_by-cons}
use Rattle.std.proofs.lemmas.Bool.{cond-false}
use Rattle.std.proofs.lemmas.Bool.Decides.{nat_tests}
use Rattle.std.proofs.Math.Seq.{take-append_seam}
use Rattle.text.specs.Numbers.{AllDigits}
use Rattle.text.specs.Places.{newlines}
use Rattle.text.proofs.Bytes.{newline_only}
use Rattle.aiger.specs.Grammar.{Numeral, NumberLine, HeaderLine, InputLines, GateLines, Symbol, letter_byte, NameBytes, SymbolForm, SymbolLines}
use Rattle.aiger.specs.declared.header.Header.{Header}
use Rattle.aiger.specs.declared.states.Letter.{Letter}
use Rattle.aiger.specs.declared.states.Letter.TheVariants.{Input, Output}
use Rattle.aiger.proofs.NumberTexts.{first_of}
use Rattle.aiger.proofs.SymbolsRead.{name_byte}

-- the text ts goes on with rest after a front that has n newlines
abbrev pub Cut : List ℕ → List ℕ → ℕ → Type 0
Cut ts rest n = (front : List ℕ) × (ts ≡ front ++ rest) × (newlines front ≡ n)

both : (xs ys : List ℕ) → newlines (xs ++ ys) ≡ newlines xs + newlines ys
both xs ys = sum_by-append (λ b. cond (eqb b 10) 1 0) xs ys

pub join : (a b c : List ℕ) (m n : ℕ) → Cut a b m → Cut b c n → Cut a c (m + n)
join a b c m n (f, e, x) (g, d, y) = (f ++ g, e ∙ ap (λ (l : List ℕ). f ++ l) d ∙ sym (append_assoc f g c), both f g ∙ (λ i. x i + y i))

join_is : (a b c : List ℕ) (m n k : ℕ) → m + n ≡ k → Cut a b m → Cut b c n → Cut a c k
join_is a b c m n k same f g = subst (Cut a c) same (join a b c m n f g)

one_byte : (x : ℕ) (rest : List ℕ) (n : ℕ) → newlines (x ∷ []) ≡ n → Cut (x ∷ rest) rest n
one_byte x rest n e = (x ∷ [], refl, e)

no_newline : (b : ℕ) (bs : List ℕ) → eqb b 10 ≡ false → newlines (b ∷ bs) ≡ newlines bs
no_newline b bs e =
    let one : ℕ = cond (eqb b 10) 1 0 in
    let none : one ≡ 0 = cond-false (eqb b 10) 1 0 e in
    let more : newlines (b ∷ bs) ≡ one + newlines bs = sum_by-cons (λ b. cond (eqb b 10) 1 0) b bs in
    omega (arith, more, none)

digits_none : (ds : List ℕ) → AllDigits ds → newlines ds ≡ 0
digits_none [] d = refl
digits_none (b ∷ ds) d =
    let h = d 0 (omega arith) in
    let ne : eqb b 10 ≡ false = grind (arith, nat_tests, h.0) in
    no_newline b ds ne ∙ digits_none ds (λ k l. d (suc k) (omega arith))

name_none : (bs : List ℕ) → NameBytes bs → newlines bs ≡ 0
name_none [] h = refl
name_none (b ∷ bs) (nb, h) = no_newline b bs (sym (newline_only b) ∙ name_byte b nb) ∙ name_none bs h

-- a number, and the byte after it
item_cut : (v x : ℕ) (ds ts rest : List ℕ) (n : ℕ) → Numeral v ds → newlines (x ∷ []) ≡ n → ts ≡ ds ++ x ∷ rest → Cut ts rest n
item_cut v x ds ts rest n num e text = join_is ts (x ∷ rest) rest 0 n n (omega arith) (ds, text, digits_none ds num.digit) (one_byte x rest n e)

pub line_cut : (vs ts rest : List ℕ) → NumberLine vs ts rest → Cut ts rest 1
line_cut [] ts rest l = absurd l
line_cut (v ∷ []) ts rest (ds, num, e) = item_cut v 10 ds ts rest 1 num refl e
line_cut (v ∷ w ∷ vs) ts rest (ds, mid, num, e, l) = join ts mid rest 0 1 (item_cut v 32 ds ts mid 0 num refl e) (line_cut (w ∷ vs) mid rest l)

pub header_cut : (h : Header) (ts rest : List ℕ) → HeaderLine h ts rest → Cut ts rest 1
header_cut h ts rest (mid, e, l) = join ts mid rest 0 1 (codes "aag ", e, refl) (line_cut (h.highest ∷ h.inputs ∷ h.latches ∷ h.outputs ∷ h.gates ∷ []) mid rest l)

pub inputs_cut : (n k : ℕ) (ts rest : List ℕ) → InputLines k n ts rest → Cut ts rest n
inputs_cut zero k ts rest e = ([], e, refl)
inputs_cut (suc n) k ts rest (mid, line, more) = join_is ts mid rest 1 n (suc n) (omega arith) (line_cut (2 * k ∷ []) ts mid line) (inputs_cut n (k + 1) mid rest more)

pub gates_cut : (gs : List (ℕ × ℕ)) (i k : ℕ) (ts rest : List ℕ) → GateLines i k gs ts rest → Cut ts rest (length gs)
gates_cut [] i k ts rest e = ([], e, refl)
gates_cut (g ∷ gs) i k ts rest (mid, line, more) = join_is ts mid rest 1 (length gs) (suc (length gs)) (omega arith) (line_cut (2 * (i + 1 + k) ∷ g.0 ∷ g.1 ∷ []) ts mid line.2) (gates_cut gs i (k + 1) mid rest more)

letter_none : (l : Letter) → newlines (letter_byte l ∷ []) ≡ 0
letter_none Input = refl
letter_none Output = refl

-- a symbol line up to its newline
pub form_cut : (s : Symbol) (ts rest : List ℕ) → SymbolForm s ts rest → Cut ts (10 ∷ rest) 0
form_cut s ts rest f =
    let mid = s.name ++ 10 ∷ rest in
    join ts (f.ds ++ 32 ∷ mid) (10 ∷ rest) 0 0 (letter_byte s.letter ∷ [], f.text, letter_none s.letter)
    (join (f.ds ++ 32 ∷ mid) mid (10 ∷ rest) 0 0 (item_cut s.position 32 f.ds _ mid 0 f.position refl refl) (s.name, refl, name_none s.name f.bytes))

pub symbols_cut : (n : ℕ) (ss : List Symbol) (ts rest : List ℕ) → SymbolLines n ss ts rest → Cut ts rest (length ss)
symbols_cut n [] ts rest e = ([], e, refl)
symbols_cut n (s ∷ ss) ts rest (mid, line, more) =
    join_is ts mid rest 1 (length ss) (suc (length ss)) (omega arith) (join ts (10 ∷ mid) mid 0 1 (form_cut s ts mid line.1) (one_byte 10 mid 1 refl)) (symbols_cut n ss mid rest more)

-- the newlines before the place where a byte stands
pub at_place : (bs rest : List ℕ) (p x n : ℕ) → drop p bs ≡ x ∷ rest → Cut bs (x ∷ rest) n → newlines (take p bs) ≡ n
at_place bs rest p x n e (front, text, count) =
    let inside = (first_of bs p x rest e).0 in
    let left : length bs - p ≡ suc (length rest) = sym (length-drop p bs) ∙ ap length e in
    let long : length bs ≡ length front + suc (length rest) = ap length text ∙ length-append front (x ∷ rest) in
    let same : p ≡ length front = omega arith in
    ap newlines ((λ i. take (same i) (text i)) ∙ take-append_seam front (x ∷ rest)) ∙ count

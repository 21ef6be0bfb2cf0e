-- The byte or the number at which a line has not the form of its kind, in the words of the format: the lines before are right,
-- and what stands in the line before the place begins a line of its kind. Assumes nothing.
--
--   kind         which line is due: the header, a line of numbers, or one of the closing lines: a symbol line, a line c, the end
--   here         the text from a place on
--   begins       a text begins with a line of a kind
--   loose        the same, but that each of its numbers may be any digits
--   due          the lines before here are right, and here a line of this kind is to stand
--   why          a misfit: no line of the kind goes on as the file does at the place, nor would one with any digits for a number;
--                a bad number: only a number can go on there, and the digits there are none
--   malformed    the file is so at the place of a fault of the text, or it has too many bytes
use Rattle.std.specs.Prelude.{◌≡◌, ℕ, zero, suc, ◌+◌, ◌<◌, ◌≤◌, ◌⊎◌, true, Some, List, ◌∷◌, ◌++◌, length, slice_get}
use Rattle.faults.specs.Reports.{max_file_bytes}
use Rattle.faults.specs.declared.text.TextFault.{TextFault}
use Rattle.faults.specs.declared.text.TextFault.TheVariants.{TooLong, Misfit, BadNumber}
use Rattle.text.specs.Numbers.{is_digit, AllDigits, digits}
use Rattle.aiger.specs.Symbols.{max_name}
use Rattle.aiger.specs.Grammar.{Numeral, NumberLine, HeaderLine, Symbol, letter_byte, NameBytes, SymbolForm, SymbolLines, Apart, Ending}
use Rattle.aiger.specs.Refused.{UpToInputs, UpToGates}
use Rattle.aiger.specs.declared.header.Header.{Header}
use Rattle.aiger.specs.declared.states.Letter.{Letter}

-- a line of numbers has so many after the first
pub data Kind : Type 0 where
  header : Kind
  numbers : ℕ → Kind
  closing : Kind

abbrev pub Begins : Kind → List ℕ → Type 0
Begins header ts = (h : Header) × (rest : List ℕ) × HeaderLine h ts rest
Begins (numbers n) ts = (vs : List ℕ) × (rest : List ℕ) × (length vs ≡ suc n) × NumberLine vs ts rest
Begins closing ts = Ending ts ⊎ ((s : Symbol) × (rest : List ℕ) × SymbolForm s ts rest)

abbrev pub Anything : List ℕ → Type 0
Anything ts = Unit {0}

-- the byte b, and more
abbrev pub Byte : ℕ → (List ℕ → Type 0) → List ℕ → Type 0
Byte b More ts = (rest : List ℕ) × (ts ≡ b ∷ rest) × More rest

-- some digits, and more
abbrev pub Digits : (List ℕ → Type 0) → List ℕ → Type 0
Digits More ts = (ds : List ℕ) × (rest : List ℕ) × (1 ≤ length ds) × AllDigits ds × (ts ≡ ds ++ rest) × More rest

-- digits, so many more behind a blank each, and a newline
abbrev pub DigitLine : ℕ → List ℕ → Type 0
DigitLine zero = Digits (Byte 10 Anything)
DigitLine (suc n) = Digits (Byte 32 (DigitLine n))

-- the rest of a name after k bytes of it, and a newline
pub record NameRest (k : ℕ) (ts : List ℕ) : Type 0 where
  pub name : List ℕ
  pub rest : List ℕ
  pub some : 1 ≤ k + length name
  pub few : k + length name ≤ max_name
  pub bytes : NameBytes name
  pub text : ts ≡ name ++ 10 ∷ rest

abbrev pub Loose : Kind → List ℕ → Type 0
Loose header = Byte 97 (Byte 97 (Byte 103 (Byte 32 (DigitLine 4))))
Loose (numbers n) = DigitLine n
Loose closing = λ ts. Ending ts ⊎ ((l : Letter) × Byte (letter_byte l) (Digits (Byte 32 (NameRest 0))) ts)

abbrev pub DigitFirst : List ℕ → Type 0
DigitFirst ts = (d : ℕ) × (slice_get ts 0 ≡ Some d) × (is_digit d ≡ true)

pub data Due (file : List ℕ) (words : ℕ) : Kind → List ℕ → Type 0 where
  at_header : length file ≤ max_file_bytes → Due file words header file
  at_input : (h : Header) (k : ℕ) (here : List ℕ) → UpToInputs file words h k here → k < h.inputs → Due file words (numbers 0) here
  at_output : (h : Header) (here : List ℕ) → UpToInputs file words h h.inputs here → Due file words (numbers 0) here
  at_gate : (h : Header) (gs : List (ℕ × ℕ)) (here : List ℕ) → UpToGates file words h gs here → length gs < h.gates → Due file words (numbers 2) here
  at_closing : (h : Header) (gs : List (ℕ × ℕ)) (symbols : List Symbol) (after_gates here : List ℕ) → UpToGates file words h gs after_gates → length gs ≡ h.gates
      → SymbolLines h.inputs symbols after_gates here → Apart symbols → Due file words closing here

-- why the text of the file is wrong where here stands, behind front in a line of this loose form
abbrev pub Why : (List ℕ → Type 0) → List ℕ → List ℕ → List ℕ → TextFault → Type 0
Why Line file front here TooLong = ⊥
Why Line file front here (Misfit place) = (place + length here ≡ length file) × ((ts : List ℕ) → Line (front ++ ts) → slice_get ts 0 ≡ slice_get here 0 → ⊥)
Why Line file front here (BadNumber place) =
    (place + length here ≡ length file) × ((ts : List ℕ) → Line (front ++ ts) → DigitFirst ts) × (1 ≤ length (digits here)) × ((v : ℕ) → Numeral v (digits here) → ⊥)

pub record LineMalformed (file : List ℕ) (words : ℕ) (fault : TextFault) : Type 0 where
  pub kind : Kind
  pub front : List ℕ
  pub here : List ℕ
  pub due : Due file words kind (front ++ here)
  pub begins : (ts : List ℕ) × Begins kind (front ++ ts)
  pub why : Why (Loose kind) file front here fault

abbrev pub Malformed : List ℕ → ℕ → TextFault → Type 0
Malformed file words TooLong = max_file_bytes < length file
Malformed file words (Misfit place) = LineMalformed file words (Misfit place)
Malformed file words (BadNumber place) = LineMalformed file words (BadNumber place)

-- The files that are circuits, in the words of the format. Assumes nothing.
--
--   ts, rest    a line's relation has the text ts that begins with the line, and what stands after it, rest
--   numeral     a number in decimal
--   symbol      a letter, i or o, with a position and a name
--   written     the file is a circuit within the limits, of this reading and these gates, each a pair of operands
--   exactly     an answer and a table are those of the written circuit; where there is none, the file is refused and the
--               table is 0
use Rattle.std.specs.Prelude.{◌≡◌, ℕ, zero, suc, ◌+◌, ◌-◌, ◌*◌, ◌<◌, ◌≤◌, min, max, true, ◌⊎◌, List, [], ◌∷◌, ◌++◌, length, replicate, Ok, Err, codes, Result, slice_index_or}
use Rattle.circuit.specs.declared.reading.Reading.{Reading}
use Rattle.faults.specs.Reports.{max_file_bytes}
use Rattle.faults.specs.declared.circuit.CircuitFault.{CircuitFault}
use Rattle.text.specs.Classes.{class_of}
use Rattle.text.specs.Numbers.{AllDigits, max_digits, decimal}
use Rattle.aiger.specs.Lines.{Within}
use Rattle.aiger.specs.Symbols.{max_name, nameable}
use Rattle.aiger.specs.declared.header.Header.{Header}
use Rattle.aiger.specs.declared.states.Letter.{Letter}
use Rattle.aiger.specs.declared.states.Letter.TheVariants.{Input, Output}

-- the digits ds are the number v: one to five of them, no 0 before another
pub record Numeral (v : ℕ) (ds : List ℕ) : Type 0 where
  pub some : 1 ≤ length ds
  pub few : length ds ≤ max_digits
  pub digit : AllDigits ds
  pub plain : slice_index_or ds 0 0 ≡ 48 → length ds ≡ 1
  pub value : decimal 0 ds ≡ v

-- a line of these numbers, parted by one blank
abbrev pub NumberLine : List ℕ → List ℕ → List ℕ → Type 0
NumberLine [] ts rest = ⊥
NumberLine (v ∷ []) ts rest = (ds : List ℕ) × Numeral v ds × (ts ≡ ds ++ 10 ∷ rest)
NumberLine (v ∷ w ∷ vs) ts rest = (ds : List ℕ) × (mid : List ℕ) × Numeral v ds × (ts ≡ ds ++ 32 ∷ mid) × NumberLine (w ∷ vs) mid rest

-- line 1
abbrev pub HeaderLine : Header → List ℕ → List ℕ → Type 0
HeaderLine h ts rest = (mid : List ℕ) × (ts ≡ codes "aag " ++ mid) × NumberLine (h.highest ∷ h.inputs ∷ h.latches ∷ h.outputs ∷ h.gates ∷ []) mid rest

-- the lines of n inputs from input k on
abbrev pub InputLines : ℕ → ℕ → List ℕ → List ℕ → Type 0
InputLines k zero ts rest = ts ≡ rest
InputLines k (suc n) ts rest = (mid : List ℕ) × NumberLine (2 * k ∷ []) ts mid × InputLines (k + 1) n mid rest

-- the line of a gate with its own literal and its operands, which are below it
abbrev pub GateLine : ℕ → ℕ × ℕ → List ℕ → List ℕ → Type 0
GateLine own g ts rest = (g.0 < own) × (g.1 < own) × NumberLine (own ∷ g.0 ∷ g.1 ∷ []) ts rest

-- the lines of the gates from gate k on, the first gate being gate 0, after i inputs
abbrev pub GateLines : ℕ → ℕ → List (ℕ × ℕ) → List ℕ → List ℕ → Type 0
GateLines i k [] ts rest = ts ≡ rest
GateLines i k (g ∷ gs) ts rest = (mid : List ℕ) × GateLine (2 * (i + 1 + k)) g ts mid × GateLines i (k + 1) gs mid rest

pub record Symbol : Type 0 where
  pub letter : Letter
  pub position : ℕ
  pub name : List ℕ

abbrev pub letter_byte : Letter → ℕ
letter_byte Input = 105
letter_byte Output = 111

-- a position that is not too large, of n inputs and one output
abbrev pub InRange : ℕ → Letter → ℕ → Type 0
InRange n Input p = p < n
InRange n Output p = p ≡ 0

abbrev pub NameBytes : List ℕ → Type 0
NameBytes [] = Unit {0}
NameBytes (b ∷ bs) = (nameable (class_of b) ≡ true) × NameBytes bs

-- a symbol line, whatever its position
pub record SymbolForm (s : Symbol) (ts rest : List ℕ) : Type 0 where
  pub ds : List ℕ
  pub position : Numeral s.position ds
  pub some : 1 ≤ length s.name
  pub few : length s.name ≤ max_name
  pub bytes : NameBytes s.name
  pub text : ts ≡ letter_byte s.letter ∷ (ds ++ 32 ∷ (s.name ++ 10 ∷ rest))

abbrev pub SymbolLine : ℕ → Symbol → List ℕ → List ℕ → Type 0
SymbolLine n s ts rest = InRange n s.letter s.position × SymbolForm s ts rest

abbrev pub SymbolLines : ℕ → List Symbol → List ℕ → List ℕ → Type 0
SymbolLines n [] ts rest = ts ≡ rest
SymbolLines n (s ∷ ss) ts rest = (mid : List ℕ) × SymbolLine n s ts mid × SymbolLines n ss mid rest

-- no symbol has the letter and the position of s
abbrev pub OtherThan : Symbol → List Symbol → Type 0
OtherThan s [] = Unit {0}
OtherThan s (t ∷ ts) = ((s.letter ≡ t.letter) × (s.position ≡ t.position) → ⊥) × OtherThan s ts

-- no letter has a position twice
abbrev pub Apart : List Symbol → Type 0
Apart [] = Unit {0}
Apart (s ∷ ss) = OtherThan s ss × Apart ss

-- the end of the file, or a line c and anything
abbrev pub Ending : List ℕ → Type 0
Ending ts = (ts ≡ []) ⊎ ((free : List ℕ) × (ts ≡ 99 ∷ 10 ∷ free))

pub record Written (file : List ℕ) (words : ℕ) (r : Reading) (gs : List (ℕ × ℕ)) : Type 0 where
  pub few : length file ≤ max_file_bytes
  pub h : Header
  pub limits : Within h words
  pub inputs_is : r.inputs ≡ h.inputs
  pub gates_is : r.gates ≡ h.gates
  pub output_below : r.output ≤ 2 * h.highest + 1
  pub count : length gs ≡ h.gates
  pub after_header : List ℕ
  pub after_inputs : List ℕ
  pub after_output : List ℕ
  pub after_gates : List ℕ
  pub rest : List ℕ
  pub symbols : List Symbol
  pub header : HeaderLine h file after_header
  pub inputs : InputLines 1 h.inputs after_header after_inputs
  pub output : NumberLine (r.output ∷ []) after_inputs after_output
  pub gates : GateLines h.inputs 0 gs after_output after_gates
  pub lines : SymbolLines h.inputs symbols after_gates rest
  pub apart : Apart symbols
  pub ending : Ending rest

-- two words a gate, the larger operand first
abbrev pub gate_words : List (ℕ × ℕ) → List ℕ
gate_words [] = []
gate_words (g ∷ gs) = max g.0 g.1 ∷ min g.0 g.1 ∷ gate_words gs

-- the table of these gates, with 0 in all further words
abbrev pub gate_table : ℕ → List (ℕ × ℕ) → List ℕ
gate_table words gs = gate_words gs ++ replicate (words - 2 * length gs) 0

pub record Exactly (file : List ℕ) (words : ℕ) (table : List ℕ) (answer : Result Reading CircuitFault) : Type 0 where
  pub reads : (r : Reading) → answer ≡ Ok r → (gs : List (ℕ × ℕ)) × Written file words r gs × (table ≡ gate_table words gs)
  pub accepts : (r : Reading) (gs : List (ℕ × ℕ)) → Written file words r gs → (answer ≡ Ok r) × (table ≡ gate_table words gs)
  pub refuses : (e : CircuitFault) → answer ≡ Err e → table ≡ replicate words 0

-- The rule that a refused file breaks, in the words of the format: the lines before the one that is told are right, and
-- that line has the form of its kind and breaks the rule, and no rule of a smaller number. Assumes nothing.
--
--   keeps          line 1 keeps a rule of its own; the rules of the other lines ask nothing of it
--   up to inputs   line 1 is right, and so are the lines of the first k inputs; rest stands after them
--   up to gates    the same up to the output, and the lines of these gates
--   broken         a line of the form that is due breaks the rule; here is the text that begins with it
use Rattle.std.specs.Prelude.{◌≡◌, ℕ, ◌+◌, ◌*◌, ◌<◌, ◌≤◌, List, [], ◌∷◌, length}
use Rattle.circuit.specs.Limits.{max_inputs, max_gates}
use Rattle.faults.specs.Reports.{max_file_bytes, rule_number}
use Rattle.faults.specs.declared.circuit.Rule.{Rule}
use Rattle.faults.specs.declared.circuit.Rule.TheVariants.{InputCount, LatchCount, OutputCount, GateCount, HighestVariable, GateTable, InputLine, OutputLiteral, GateLiteral, Operand, SymbolPosition}
use Rattle.aiger.specs.Lines.{Within}
use Rattle.aiger.specs.Grammar.{NumberLine, HeaderLine, InputLines, GateLines, Symbol, InRange, SymbolForm, SymbolLines, OtherThan, Apart}
use Rattle.aiger.specs.declared.header.Header.{Header}

-- a header's rules, with a gate table of so many words
abbrev pub Keeps : Header → ℕ → Rule → Type 0
Keeps h words InputCount = (1 ≤ h.inputs) × (h.inputs ≤ max_inputs)
Keeps h words LatchCount = h.latches ≡ 0
Keeps h words OutputCount = h.outputs ≡ 1
Keeps h words GateCount = h.gates ≤ max_gates
Keeps h words HighestVariable = h.highest ≡ h.inputs + h.latches + h.gates
Keeps h words GateTable = 2 * h.gates ≤ words
Keeps h words InputLine = Unit {0}
Keeps h words OutputLiteral = Unit {0}
Keeps h words GateLiteral = Unit {0}
Keeps h words Operand = Unit {0}
Keeps h words SymbolPosition = Unit {0}

-- line 1
pub record HeaderBroken (file : List ℕ) (words : ℕ) (rule : Rule) (line : ℕ) : Type 0 where
  pub few : length file ≤ max_file_bytes
  pub h : Header
  pub rest : List ℕ
  pub header : HeaderLine h file rest
  pub breaks : Keeps h words rule → ⊥
  pub others : (other : Rule) → rule_number other < rule_number rule → Keeps h words other
  pub line_is : line ≡ 1

pub record UpToInputs (file : List ℕ) (words : ℕ) (h : Header) (k : ℕ) (rest : List ℕ) : Type 0 where
  pub few : length file ≤ max_file_bytes
  pub limits : Within h words
  pub after_header : List ℕ
  pub header : HeaderLine h file after_header
  pub inputs : InputLines 1 k after_header rest

-- the line of input k + 1 has another number
pub record InputBroken (file : List ℕ) (words line : ℕ) : Type 0 where
  pub h : Header
  pub k : ℕ
  pub v : ℕ
  pub here : List ℕ
  pub rest : List ℕ
  pub before : UpToInputs file words h k here
  pub among : k < h.inputs
  pub number : NumberLine (v ∷ []) here rest
  pub breaks : v ≡ 2 * (k + 1) → ⊥
  pub line_is : line ≡ k + 2

-- the output is no literal of a variable
pub record OutputBroken (file : List ℕ) (words line : ℕ) : Type 0 where
  pub h : Header
  pub v : ℕ
  pub here : List ℕ
  pub rest : List ℕ
  pub before : UpToInputs file words h h.inputs here
  pub number : NumberLine (v ∷ []) here rest
  pub breaks : 2 * h.highest + 1 < v
  pub line_is : line ≡ h.inputs + 2

pub record UpToGates (file : List ℕ) (words : ℕ) (h : Header) (gs : List (ℕ × ℕ)) (rest : List ℕ) : Type 0 where
  pub after_inputs : List ℕ
  pub after_output : List ℕ
  pub inputs : UpToInputs file words h h.inputs after_inputs
  pub output : ℕ
  pub output_line : NumberLine (output ∷ []) after_inputs after_output
  pub output_below : output ≤ 2 * h.highest + 1
  pub gates : GateLines h.inputs 0 gs after_output rest

-- what breaks a rule of a gate's line, where due is the gate's own literal
abbrev pub GateBreaks : ℕ → ℕ → ℕ × ℕ → Rule → Type 0
GateBreaks due own g InputCount = ⊥
GateBreaks due own g LatchCount = ⊥
GateBreaks due own g OutputCount = ⊥
GateBreaks due own g GateCount = ⊥
GateBreaks due own g HighestVariable = ⊥
GateBreaks due own g GateTable = ⊥
GateBreaks due own g InputLine = ⊥
GateBreaks due own g OutputLiteral = ⊥
GateBreaks due own g GateLiteral = own ≡ due → ⊥
GateBreaks due own g Operand = (own ≡ due) × ((g.0 < own) × (g.1 < own) → ⊥)
GateBreaks due own g SymbolPosition = ⊥

-- the line of a gate, after those of the gates gs
pub record GateBroken (file : List ℕ) (words : ℕ) (rule : Rule) (line : ℕ) : Type 0 where
  pub h : Header
  pub gs : List (ℕ × ℕ)
  pub own : ℕ
  pub g : ℕ × ℕ
  pub here : List ℕ
  pub rest : List ℕ
  pub before : UpToGates file words h gs here
  pub among : length gs < h.gates
  pub numbers : NumberLine (own ∷ g.0 ∷ g.1 ∷ []) here rest
  pub breaks : GateBreaks (2 * (h.inputs + 1 + length gs)) own g rule
  pub line_is : line ≡ h.inputs + 3 + length gs

-- the position of a symbol is too large, or one of the symbols before has it
pub record SymbolBroken (file : List ℕ) (words line : ℕ) : Type 0 where
  pub h : Header
  pub gs : List (ℕ × ℕ)
  pub symbols : List Symbol
  pub s : Symbol
  pub after_gates : List ℕ
  pub here : List ℕ
  pub rest : List ℕ
  pub before : UpToGates file words h gs after_gates
  pub count : length gs ≡ h.gates
  pub lines : SymbolLines h.inputs symbols after_gates here
  pub apart : Apart symbols
  pub form : SymbolForm s here rest
  pub breaks : InRange h.inputs s.letter s.position × OtherThan s symbols → ⊥
  pub line_is : line ≡ h.inputs + 3 + h.gates + length symbols

abbrev pub BrokenBy : List ℕ → ℕ → Rule → ℕ → Type 0
BrokenBy file words InputCount line = HeaderBroken file words InputCount line
BrokenBy file words LatchCount line = HeaderBroken file words LatchCount line
BrokenBy file words OutputCount line = HeaderBroken file words OutputCount line
BrokenBy file words GateCount line = HeaderBroken file words GateCount line
BrokenBy file words HighestVariable line = HeaderBroken file words HighestVariable line
BrokenBy file words GateTable line = HeaderBroken file words GateTable line
BrokenBy file words InputLine line = InputBroken file words line
BrokenBy file words OutputLiteral line = OutputBroken file words line
BrokenBy file words GateLiteral line = GateBroken file words GateLiteral line
BrokenBy file words Operand line = GateBroken file words Operand line
BrokenBy file words SymbolPosition line = SymbolBroken file words line

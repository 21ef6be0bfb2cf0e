-- The header, input, output and gate lines: what the reader answers, for every file. Assumes nothing.
--
--   header      the five numbers of line 1: highest variable, inputs, latches, outputs, gates
--   literal     2v for variable v, 2v + 1 for its inverse
--   own         a gate's own literal, the first number of its line; left and right are its operands
--   gate table  two words a gate, the larger operand first
--   up          go on with the value of the layer below, or end with its fault carried up
--   keep        the same, with the gate table as it is
use Rattle.std.specs.Prelude.{◌≡◌, ℕ, zero, suc, ◌+◌, ◌*◌, ◌≤◌, min, max, cond, not, ◌||◌, List, Ok, Err, Result, ◌==◌, nat_le, nat_lt, slice_index, slice_set}
use Rattle.circuit.specs.Limits.{max_inputs, max_gates}
use Rattle.faults.specs.declared.text.TextFault.{TextFault}
use Rattle.faults.specs.declared.circuit.Rule.TheVariants.{InputCount, LatchCount, OutputCount, GateCount, HighestVariable, GateTable, InputLine, OutputLiteral, GateLiteral, Operand}
use Rattle.faults.specs.declared.circuit.CircuitFault.{CircuitFault}
use Rattle.faults.specs.declared.circuit.CircuitFault.TheVariants.{Text, Broken}
use Rattle.text.specs.Runs.{next}
use Rattle.text.specs.Lines.{item_at, numbers_at, header_at}
use Rattle.aiger.specs.FaultLines.{located_in}
use Rattle.aiger.specs.declared.header.Header.{Header}
use Rattle.aiger.specs.declared.gates.Gate.{Gate}

abbrev pub up : {X Y E F : Type 0} → (E → F) → Result X E → (X → Result Y F) → Result Y F
up f (Ok x) k = k x
up f (Err e) k = Err (f e)

abbrev pub keep : {X Y E F : Type 0} → (E → F) → List ℕ → Result X E → (X → List ℕ × Result Y F) → List ℕ × Result Y F
keep f t (Ok x) more = more x
keep f t (Err e) more = (t, Err (f e))

abbrev pub header_in : List ℕ → Header
header_in vs = record { highest = slice_index vs 0; inputs = slice_index vs 1; latches = slice_index vs 2; outputs = slice_index vs 3; gates = slice_index vs 4 }

abbrev pub header_read : List ℕ → Result (Header × ℕ) TextFault
header_read bs = next (header_at bs) (λ v. Ok (header_in v.0, v.1))

-- the limits of a header, with a gate table of so many words
pub record Within (h : Header) (words : ℕ) : Type 0 where
  pub some : 1 ≤ h.inputs
  pub inputs : h.inputs ≤ max_inputs
  pub latches : h.latches ≡ 0
  pub outputs : h.outputs ≡ 1
  pub gates : h.gates ≤ max_gates
  pub highest : h.highest ≡ h.inputs + h.latches + h.gates
  pub room : 2 * h.gates ≤ words

-- the first limit that is broken, on line 1
abbrev pub header_fits : Header → ℕ → Result (Unit {0}) CircuitFault
header_fits h words =
    cond (nat_lt h.inputs 1 || nat_lt max_inputs h.inputs) (Err (Broken InputCount 1))
    (cond (not (h.latches == 0)) (Err (Broken LatchCount 1))
    (cond (not (h.outputs == 1)) (Err (Broken OutputCount 1))
    (cond (nat_lt max_gates h.gates) (Err (Broken GateCount 1))
    (cond (not (h.highest == h.inputs + h.latches + h.gates)) (Err (Broken HighestVariable 1))
    (cond (nat_lt words (2 * h.gates)) (Err (Broken GateTable 1)) (Ok tt))))))

-- the place after the lines of n inputs from input k on; input k stands on line k + 1
abbrev pub inputs_at : List ℕ → ℕ → ℕ → ℕ → Result ℕ CircuitFault
inputs_at bs p k zero = Ok p
inputs_at bs p k (suc n) = up Text (located_in bs (item_at bs p 10)) (λ v. cond (v.0 == 2 * k) (inputs_at bs v.1 (k + 1) n) (Err (Broken InputLine (k + 1))))

-- the output's literal and the place after its line, of a circuit of this highest variable and so many inputs
abbrev pub output_at : List ℕ → ℕ → ℕ → ℕ → Result (ℕ × ℕ) CircuitFault
output_at bs p highest inputs = up Text (located_in bs (item_at bs p 10)) (λ v. cond (nat_lt (2 * highest + 1) v.0) (Err (Broken OutputLiteral (inputs + 2))) (Ok v))

abbrev pub gate_in : List ℕ → Gate
gate_in vs = record { own = slice_index vs 0; left = slice_index vs 1; right = slice_index vs 2 }

abbrev pub gate_at : List ℕ → ℕ → Result (Gate × ℕ) TextFault
gate_at bs p = next (numbers_at bs p 2) (λ v. Ok (gate_in v.0, v.1))

-- gate k, from 0, after i inputs: its own literal, and operands below it
abbrev pub gate_fits : Gate → ℕ → ℕ → Result (Unit {0}) CircuitFault
gate_fits g i k =
    cond (not (g.own == 2 * (i + 1 + k))) (Err (Broken GateLiteral (i + 3 + k)))
    (cond (nat_le g.own g.left || nat_le g.own g.right) (Err (Broken Operand (i + 3 + k))) (Ok tt))

abbrev pub words_of : Gate → ℕ × ℕ
words_of g = (max g.left g.right, min g.left g.right)

-- the words of gate k in the table
abbrev pub wrote : List ℕ → ℕ → Gate → List ℕ
wrote t k g = slice_set (slice_set t (2 * k) (words_of g).0) (2 * k + 1) (words_of g).1

-- the table and the answer after the lines of n gates from gate k on
abbrev pub gates_at : List ℕ → ℕ → ℕ → ℕ → ℕ → List ℕ → List ℕ × Result ℕ CircuitFault
gates_at bs i k zero p t = (t, Ok p)
gates_at bs i k (suc n) p t =
    keep Text t (located_in bs (gate_at bs p)) (λ g. keep (λ e. e) t (gate_fits g.0 i k) (λ u. gates_at bs i (k + 1) n g.1 (wrote t k g.0)))

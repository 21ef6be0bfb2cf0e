-- Circuits by their numbers, and what their variables hold for values of any kind.
--   variable   0 is false, 1 to I are the inputs, I + 1 to M the gates
--   literal    2v is variable v and 2v + 1 its inverse
--   gates      two words a gate: the literals whose AND it is
--   own        a gate's own literal, twice its variable
--   Netlist    a circuit's number of inputs, the literal of its output, and its gates
-- Assumes nothing.
use Rattle.std.specs.Prelude.{ℕ, ◌+◌, ◌*◌, ◌/◌, ◌%◌, Bool, true, false, cond, not, ◌&&◌, List, [], ◌∷◌, ◌++◌, length, take, ◌==◌, nat_le, nat_lt, slice_index_or}
use Rattle.circuit.specs.declared.reading.Reading.{Reading}
use Rattle.circuit.specs.Limits.{max_inputs, max_gates}
use Rattle.circuit.specs.Kinds.{Ops}

pub record Netlist : Type 0 where
  pub inputs : ℕ
  pub output : ℕ
  pub gates : List ℕ

-- the highest variable, M
abbrev pub highest : Netlist → ℕ
highest c = c.inputs + length c.gates / 2

-- ---- the circuit of a reading and a gate table

-- from word k of the gate table on, each operand is below its gate's own literal
abbrev pub ordered : ℕ → ℕ → List ℕ → Bool
ordered inputs k [] = true
ordered inputs k (operand ∷ rest) = nat_lt operand (2 * (inputs + 1 + k / 2)) && ordered inputs (k + 1) rest

abbrev pub within_limits : Reading → List ℕ → Bool
within_limits r table =
    nat_le 1 r.inputs && (nat_le r.inputs max_inputs && (nat_le r.gates max_gates
    && (nat_le r.output (2 * (r.inputs + r.gates) + 1) && (nat_le (2 * r.gates) (length table) && ordered r.inputs 0 (take (2 * r.gates) table)))))

-- one input, output 0 and no gates where the limits are broken
abbrev pub taken_up : Reading → List ℕ → Netlist
taken_up r table =
    cond (within_limits r table)
    (record { inputs = r.inputs; output = r.output; gates = take (2 * r.gates) table })
    (record { inputs = 1; output = 0; gates = [] })

-- ---- what the variables hold

-- the ordinary bits
abbrev pub bits : Ops Bool
bits = record { falsity = false; both = ◌&&◌; inverse = not }

-- the value, or its inverse where the literal is odd
abbrev pub either : {X : Type 0} → Ops X → X → ℕ → X
either o v l = cond (l % 2 == 1) (o.inverse v) v

-- the value of a literal, where vs has the value of each variable from 0
abbrev pub literal : {X : Type 0} → Ops X → List X → ℕ → X
literal o vs l = either o (slice_index_or vs (l / 2) o.falsity) l

-- vs, and after it the values of the gates
abbrev pub grown : {X : Type 0} → Ops X → List ℕ → List X → List X
grown o [] vs = vs
grown o (r ∷ []) vs = vs
grown o (r ∷ s ∷ gates) vs = grown o gates (vs ++ o.both (literal o vs r) (literal o vs s) ∷ [])

-- every variable's value, where vs has one for each input
abbrev pub variables : {X : Type 0} → Ops X → List ℕ → List X → List X
variables o gates vs = grown o gates (o.falsity ∷ vs)

-- the output's value, where the inputs have these
abbrev pub output_with : {X : Type 0} → Ops X → Netlist → List X → X
output_with o c held = literal o (variables o c.gates held) c.output

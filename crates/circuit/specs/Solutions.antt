-- Rows and solutions.
--   row        a number below 2 ^ I that gives each input a bit: input 1 is its highest bit
--   solution   a row on which the output is 1
-- Assumes nothing.
use Rattle.std.specs.Prelude.{ℕ, zero, suc, ◌+◌, ◌-◌, ◌%◌, ◌^◌, Bool, cond, List, [], ◌∷◌, ◌==◌}
unfoldable pub use Rattle.cubes.specs.Rows.{count_below}
use Rattle.circuit.specs.Circuits.{Netlist, bits, output_with}
use Rattle.circuit.specs.Kinds.{bit_at}

-- one for each input, input 1 first, where each is told by its bit of the row
abbrev pub per_input : {X : Type 0} → (ℕ → X) → ℕ → List X
per_input f zero = []
per_input f (suc k) = f k ∷ per_input f k

-- the bits that a row gives to the inputs, input 1 first
abbrev pub input_bits : ℕ → ℕ → List Bool
input_bits inputs row = per_input (bit_at row) inputs

-- the output is 1 on the row
abbrev pub solves : Netlist → ℕ → Bool
solves c row = output_with bits c (input_bits c.inputs row)

-- how many rows are solutions
abbrev pub solution_count : Netlist → ℕ
solution_count c = count_below (solves c) (2 ^ c.inputs)

-- the literal of a literal's inverse
abbrev pub inverted : ℕ → ℕ
inverted l = cond (l % 2 == 1) (l - 1) (l + 1)

-- the circuit whose output is the inverse
abbrev pub negated : Netlist → Netlist
negated c = record { inputs = c.inputs; output = inverted c.output; gates = c.gates }

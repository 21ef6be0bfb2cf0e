-- What a search decider means, and what making one answers.
--   places   how many places a value table has
-- Assumes nothing.
use Rattle.std.specs.Prelude.{ℕ, Bool, cond, ◌&&◌, length, Result, nat_lt}
use Rattle.faults.specs.declared.table.TableFault.{TableFault}
use Rattle.circuit.specs.Answers.{with_room}
use Rattle.circuit.specs.Circuits.{Netlist, highest}
use Rattle.circuit.specs.Netlists.{netlist}
use Rattle.circuit.specs.Solutions.{solves}
use Rattle.search.specs.declared.making.Search.{Search}

-- what making answers: it refuses a value table that has not a place for each variable
abbrev pub made_of : Netlist → ℕ → Result (Unit {0}) TableFault
made_of c places = with_room c places tt

-- the value table has a place for each variable
abbrev pub roomy : Search → Bool
roomy s = nat_lt (highest (netlist s.circuit)) (length s.values.now)

-- the circuit's inputs and its solutions; where making refuses, no inputs and no rows
abbrev pub inputs_of : Search → ℕ
inputs_of s = cond (roomy s) s.circuit.inputs 0

abbrev pub rows_of : Search → ℕ → Bool
rows_of s row = roomy s && solves (netlist s.circuit) row

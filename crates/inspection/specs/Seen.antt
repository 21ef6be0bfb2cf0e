-- What an accepted look tells: the numbers of the file's circuit, how many solutions it has and the smallest of them.
-- Assumes nothing.
use Rattle.std.specs.Prelude.{◌≡◌, ℕ, ◌^◌, ◌<◌, true, false, cond, List, length, Some, None, Option, nat_le}
use Rattle.circuit.specs.declared.reading.Reading.{Reading}
use Rattle.circuit.specs.Circuits.{Netlist}
use Rattle.circuit.specs.Limits.{max_table_inputs}
use Rattle.circuit.specs.Solutions.{solves, solution_count}
use Rattle.aiger.specs.Grammar.{Written}
use Rattle.jobs.specs.Told.{circuit_of}
use Rattle.inspection.specs.declared.summary.Summary.{Summary}

-- a solution before which there is none; or none, and then no row is a solution
abbrev pub Smallest : Netlist → Option ℕ → Type 0
Smallest c (Some row) = (row < 2 ^ c.inputs) × (solves c row ≡ true) × ((before : ℕ) → before < row → solves c before ≡ false)
Smallest c None = (row : ℕ) → row < 2 ^ c.inputs → solves c row ≡ false

-- the file is a written circuit, with a gate table of so many words, and the summary is of it
pub record Seen (file : List ℕ) (words : ℕ) (s : Summary) : Type 0 where
  pub reading : Reading
  pub gates : List (ℕ × ℕ)
  pub circuit : Written file words reading gates
  pub inputs : s.inputs ≡ reading.inputs
  pub gate_count : s.gates ≡ length gates
  pub output : s.output ≡ reading.output
  -- how many solutions there are, up to 16 inputs
  pub solutions : s.solutions ≡ cond (nat_le reading.inputs max_table_inputs) (Some (solution_count (circuit_of reading gates))) None
  pub smallest : Smallest (circuit_of reading gates) s.smallest

-- The memory of a program's own suffices: what a job in it is never refused for.
--   enough   the lengths of its workspace, see Sizes
-- Assumes nothing.
use Rattle.std.specs.Prelude.{◌≡◌, ℕ, ◌≤◌, ◌⊎◌, List, length, IfErr, Ok}
use Rattle.faults.specs.declared.circuit.CircuitFault.{CircuitFault}
use Rattle.faults.specs.declared.circuit.CircuitFault.TheVariants.{Broken}
use Rattle.faults.specs.declared.circuit.Rule.TheVariants.{GateTable}
use Rattle.faults.specs.declared.job.Fault.{Fault}
use Rattle.faults.specs.declared.job.Fault.TheVariants.{Circuit, Table, Listing}
use Rattle.faults.specs.declared.listing.ListingFault.TheVariants.{Mode, RegisterFull}
use Rattle.circuit.specs.declared.reading.Reading.{Reading}
use Rattle.circuit.specs.Circuits.{taken_up}
use Rattle.circuit.specs.Limits.{max_inputs}
use Rattle.aiger.specs.Reads.{read_of}
use Rattle.cubes.specs.declared.entry.Entry.{Entry}
use Rattle.pla.specs.Text.{text_of}
use Rattle.jobs.specs.Lists.{making_of, list_of}
use Rattle.jobs.specs.Sizes.{enough, entry_count, text_bytes}

-- a gate table is too short for the file's gates
abbrev pub TableShort : CircuitFault → Type 0
TableShort e = (line : ℕ) × (e ≡ Broken GateTable line)

-- a fault of the file or of the mode, or a list of more cubes than there are entries
abbrev pub Due : Fault → Type 0
Due (Circuit e) = TableShort e → ⊥
Due (Listing e) = (e ≡ Mode) ⊎ (e ≡ RegisterFull entry_count)
Due (Table e) = ⊥

pub record Suffices : Type 0 where
  -- no file is refused for a gate table that is too short
  pub reads : (file : List ℕ) → IfErr (read_of file enough.gate_table).1 (λ e. TableShort e → ⊥)
  -- for every circuit that can be taken up a decider is made
  pub decides : (r : Reading) (gate_table : List ℕ) → making_of enough (taken_up r gate_table) ≡ Ok tt
  -- the text of every list of so many cubes has room
  pub prints : (n : ℕ) (cubes : List Entry) → n ≤ max_inputs → length cubes ≤ entry_count → length (text_of n cubes) ≤ text_bytes
  -- so a job is refused only where that is due, whatever its register and its text memory hold
  pub works : (file : List ℕ) (mode : ℕ) (register : List Entry) (text : List ℕ) → length register ≡ entry_count → text_bytes ≤ length text
      → IfErr (list_of file mode enough register text).0 (λ refusal. Due refusal.fault)

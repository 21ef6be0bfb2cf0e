-- What a first look at a file tells of its circuit.
--   smallest    the smallest solution, if there is one
--   counted     how many solutions there are, for few inputs
-- Assumes nothing.
use Rattle.std.specs.Prelude.{ℕ, ◌/◌, cond, List, length, Some, None, Ok, Option, Result, nat_le}
use Rattle.faults.specs.declared.table.TableFault.{TableFault}
use Rattle.faults.specs.declared.job.JobFault.{JobFault}
use Rattle.circuit.specs.Circuits.{Netlist, taken_up}
use Rattle.circuit.specs.Counts.{counted}
use Rattle.circuit.specs.Limits.{max_table_inputs}
use Rattle.circuit.specs.Solutions.{solves}
use Rattle.aiger.specs.Lines.{up}
use Rattle.aiger.specs.Reads.{read_of}
use Rattle.table.specs.Tables.{table_answer}
use Rattle.search.specs.Searches.{made_of}
use Rattle.listing.specs.Widest.{lead}
use Rattle.jobs.specs.Lists.{Room, at_reading, at_deciding}
use Rattle.inspection.specs.declared.summary.Summary.{Summary}

-- the smallest solution, by what making a decider answered
abbrev pub smallest_by : Result (Unit {0}) TableFault → Netlist → Result (Option ℕ) TableFault
smallest_by answer c = up (λ e. e) answer (λ _. Ok (lead c.inputs (solves c)))

abbrev pub summary_of : Netlist → Option ℕ → Option ℕ → Summary
summary_of c count smallest = record { inputs = c.inputs; gates = length c.gates / 2; output = c.output; solutions = count; smallest = smallest }

-- with a table decider
abbrev pub counted_summary : Netlist → ℕ → ℕ → Result Summary TableFault
counted_summary c bits words =
    up (λ e. e) (smallest_by (table_answer c bits words) c)
    (λ smallest. up (λ e. e) (counted c words) (λ count. Ok (summary_of c (Some count) smallest)))

-- with a search decider
abbrev pub searched_summary : Netlist → ℕ → Result Summary TableFault
searched_summary c signals = up (λ e. e) (smallest_by (made_of c signals) c) (λ smallest. Ok (summary_of c None smallest))

-- with the decider that the number of inputs asks for
abbrev pub circuit_summary : Netlist → ℕ → ℕ → ℕ → Result Summary TableFault
circuit_summary c bits words signals = cond (nat_le c.inputs max_table_inputs) (counted_summary c bits words) (searched_summary c signals)

abbrev pub inspected : List ℕ → Room → Result Summary JobFault
inspected file room =
    up at_reading (read_of file room.gate_table).1 (λ r. up at_deciding (circuit_summary (taken_up r (read_of file room.gate_table).0) room.bits room.words room.signals) (λ s. Ok s))

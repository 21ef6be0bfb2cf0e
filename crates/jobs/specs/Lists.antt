-- From a file to the text of its list: what a job answers, and the text memory after it.
--   job       reads the file, makes a decider, lists with it and prints the list; the first refusal ends the job
--   stage     reading, deciding or listing: what the job was doing when it was refused
--   outcome   the length of the text or the refusal, and the text memory afterwards
--   room      how many words or places each part of the workspace has
--   run       next again and again: the finished listing or the refusal, and the register afterwards
-- Assumes nothing.
use Rattle.std.specs.Prelude.{ℕ, zero, suc, ◌+◌, Bool, cond, List, length, Ok, Err, Result, nat_le}
use Rattle.faults.specs.declared.circuit.CircuitFault.{CircuitFault}
use Rattle.faults.specs.declared.job.Fault.{Fault}
use Rattle.faults.specs.declared.job.Fault.TheVariants.{Circuit, Table, Listing}
use Rattle.faults.specs.declared.job.Stage.TheVariants.{Reading, Deciding, Listing as StageListing}
use Rattle.faults.specs.declared.job.JobFault.{JobFault}
use Rattle.faults.specs.declared.listing.ListingFault.{ListingFault}
use Rattle.faults.specs.declared.listing.ListingFault.TheVariants.{RegisterFull}
use Rattle.faults.specs.declared.table.TableFault.{TableFault}
use Rattle.circuit.specs.Circuits.{Netlist, taken_up}
use Rattle.circuit.specs.Limits.{max_table_inputs}
use Rattle.circuit.specs.Solutions.{solves}
use Rattle.aiger.specs.Reads.{read_of}
use Rattle.cubes.specs.declared.entry.Entry.{Entry}
use Rattle.table.specs.Tables.{table_answer}
use Rattle.search.specs.Searches.{made_of}
use Rattle.listing.specs.declared.states.Running.{Running}
use Rattle.listing.specs.declared.states.Finished.{Finished}
use Rattle.listing.specs.declared.states.Step.{Step}
use Rattle.listing.specs.declared.states.Step.TheVariants.{Listed, Ended}
use Rattle.listing.specs.declared.states.Refusal.{Refusal}
use Rattle.listing.specs.Limits.{max_entries}
use Rattle.listing.specs.Calls.{opened, begun, entries, nexted}
use Rattle.pla.specs.Printed.{printed}
use Rattle.jobs.specs.declared.workspace.Workspace.{Workspace}

abbrev pub Outcome : Type 0
Outcome = Result ℕ JobFault × List ℕ

pub record Room : Type 0 where
  pub gate_table : ℕ
  pub bits : ℕ
  pub words : ℕ
  pub signals : ℕ

-- that a workspace gives
abbrev pub room_of : Workspace → Room
room_of w = record { gate_table = length w.gate_table.now; bits = length w.bits.now; words = length w.words.now; signals = length w.signals.now }

-- the job goes on with what a step gave; where the step refuses, the text memory stays as it was
abbrev pub go_on : {A E : Type 0} → (E → JobFault) → List ℕ → Result A E → (A → Outcome) → Outcome
go_on fault text (Ok a) more = more a
go_on fault text (Err e) more = (Err (fault e), text)

abbrev pub at_reading : CircuitFault → JobFault
at_reading e = record { fault = Circuit e; stage = Reading }

abbrev pub at_deciding : TableFault → JobFault
at_deciding e = record { fault = Table e; stage = Deciding }

abbrev pub at_listing : ListingFault → JobFault
at_listing e = record { fault = Listing e; stage = StageListing }

abbrev pub at_printing : Fault → JobFault
at_printing e = record { fault = e; stage = StageListing }

-- ---- the run

abbrev pub Run : Type 0
Run = Result Finished ListingFault × List Entry

-- after a next; a listing of one cube more goes on
abbrev pub stepped : (Running → List Entry → Run) → Result Step Refusal × List Entry → Run
stepped more (Ok (Listed l), register) = more l register
stepped more (Ok (Ended f), register) = (Ok f, register)
stepped more (Err refusal, register) = (Err refusal.fault, register)

-- with a decider of n inputs and these solutions, at most so many times next
unfoldable pub run_of : ℕ → ℕ → (ℕ → Bool) → Running → List Entry → Run
run_of zero n solutions l register = (Err (RegisterFull (entries l)), register)
run_of (suc nexts) n solutions l register = stepped (run_of nexts n solutions) (nexted l n solutions register)

-- each next but the last fills an entry: no run has more
abbrev pub most_nexts : ℕ
most_nexts = max_entries + 1

-- ---- the stages

abbrev pub printed_text : Result ℕ Fault × List ℕ → Outcome
printed_text p = go_on at_printing p.1 p.0 (λ size. (Ok size, p.1))

abbrev pub run_text : List ℕ → Run → Outcome
run_text text run = go_on at_listing text run.0 (λ f. printed_text (printed f run.1 text))

-- the list of these solutions
abbrev pub rows_text : ℕ → ℕ → (ℕ → Bool) → List Entry → List ℕ → Outcome
rows_text mode n solutions register text =
    go_on at_listing text (opened mode n) (λ d. run_text text (run_of most_nexts n solutions (begun d) register))

-- the list of a circuit's solutions, by what making a decider answered
abbrev pub decided_text : Result (Unit {0}) TableFault → ℕ → Netlist → List Entry → List ℕ → Outcome
decided_text made mode c register text = go_on at_deciding text made (λ _. rows_text mode c.inputs (solves c) register text)

-- a table decider for few inputs, else a search decider
abbrev pub making_of : Room → Netlist → Result (Unit {0}) TableFault
making_of room c = cond (nat_le c.inputs max_table_inputs) (table_answer c room.bits room.words) (made_of c room.signals)

abbrev pub circuit_text : Room → ℕ → Netlist → List Entry → List ℕ → Outcome
circuit_text room mode c register text = decided_text (making_of room c) mode c register text

abbrev pub list_of : List ℕ → ℕ → Room → List Entry → List ℕ → Outcome
list_of file mode room register text =
    go_on at_reading text (read_of file room.gate_table).1 (λ r. circuit_text room mode (taken_up r (read_of file room.gate_table).0) register text)

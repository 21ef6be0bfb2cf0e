-- The work memory after a job.
--   made   a decider is, where there is room enough for it: a table for few inputs, a search for many; none where the
--          reading is refused
-- Assumes nothing.
use Rattle.std.specs.Prelude.{ℕ, Bool, false, not, ◌&&◌, List, length, is_ok, Ok, Err, Result, nat_le}
use Rattle.faults.specs.declared.table.TableFault.{TableFault}
use Rattle.circuit.specs.Circuits.{Netlist, taken_up}
use Rattle.circuit.specs.Limits.{max_table_inputs}
use Rattle.circuit.specs.Solutions.{solves}
use Rattle.aiger.specs.Reads.{read_of}
use Rattle.cubes.specs.declared.entry.Entry.{Entry}
use Rattle.table.specs.Tables.{table_answer, filled}
use Rattle.search.specs.Searches.{made_of}
use Rattle.listing.specs.Calls.{opened, begun}
use Rattle.jobs.specs.Lists.{Room, most_nexts, run_of, making_of}

-- what comes of a step that goes well; where it refuses, what was
abbrev pub after : {A E X : Type 0} → X → Result A E → (A → X) → X
after was (Ok a) more = more a
after was (Err e) more = was

-- by the circuit that is read, if one is
abbrev pub after_reading : {X : Type 0} → X → List ℕ → Room → (Netlist → X) → X
after_reading was file room more = after was (read_of file room.gate_table).1 (λ r. more (taken_up r (read_of file room.gate_table).0))

abbrev pub gates_after : List ℕ → Room → List ℕ
gates_after file room = (read_of file room.gate_table).0

-- ---- the register: as the run leaves it, and as it was where none begins

abbrev pub rows_register : ℕ → ℕ → (ℕ → Bool) → List Entry → List Entry
rows_register mode n solutions register = after register (opened mode n) (λ d. (run_of most_nexts n solutions (begun d) register).1)

abbrev pub decided_register : Result (Unit {0}) TableFault → ℕ → Netlist → List Entry → List Entry
decided_register made mode c register = after register made (λ _. rows_register mode c.inputs (solves c) register)

abbrev pub register_after : List ℕ → ℕ → Room → List Entry → List Entry
register_after file mode room register = after_reading register file room (λ c. decided_register (making_of room c) mode c register)

-- ---- the bits: the table where one is made, else as they were

abbrev pub tabulated : Netlist → ℕ → List ℕ → List ℕ
tabulated c words bits = after bits (table_answer c (length bits) words) (λ _. filled c.inputs (solves c) bits)

abbrev pub bits_after : List ℕ → Room → List ℕ → List ℕ
bits_after file room bits = after_reading bits file room (λ c. tabulated c room.words bits)

-- ---- the deciders that are made

abbrev pub table_made : List ℕ → Room → Bool
table_made file room = after_reading false file room (λ c. is_ok (table_answer c room.bits room.words))

abbrev pub search_made : List ℕ → Room → Bool
search_made file room = after_reading false file room (λ c. not (nat_le c.inputs max_table_inputs) && is_ok (made_of c room.signals))

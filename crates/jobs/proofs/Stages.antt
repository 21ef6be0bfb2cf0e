-- A job stage by stage: with the circuit that was read and the decider that was made it goes on. Assumes nothing.
use Rattle.std.proofs.Common.{◌≡◌, ℕ, ◌<◌, ◌≤◌, Bool, cond, ◌&&◌, leb, ltb, List, is_ok, Ok, Result, sym, ap, ◌∙◌, lt-ltb}
use Rattle.std.proofs.lemmas.Bool.{cond-true, cond-false, le-leb, lt-leb}
use Rattle.faults.specs.declared.table.TableFault.{TableFault}
use Rattle.circuit.specs.declared.reading.Reading.{Reading}
use Rattle.circuit.specs.Circuits.{Netlist, taken_up}
use Rattle.circuit.specs.Limits.{max_table_inputs}
use Rattle.circuit.specs.Solutions.{solves}
use Rattle.aiger.specs.Reads.{Answer, read_of}
use Rattle.table.specs.Tables.{table_answer, filled}
use Rattle.search.specs.Searches.{made_of}
use Rattle.cubes.specs.declared.entry.Entry.{Entry}
use Rattle.jobs.specs.Afterwards.{after, after_reading, rows_register, decided_register, register_after, tabulated}
use Rattle.jobs.specs.Lists.{Outcome, Room, go_on, at_reading, rows_text, decided_text, making_of, circuit_text, list_of}

-- a decider has the circuit's inputs and solutions where its making went well
pub decided : {X : Type 0} (f : ℕ → (ℕ → Bool) → X) (answer : Result (Unit {0}) TableFault) (c : Netlist) (n : ℕ) (rows : ℕ → Bool)
    → answer ≡ Ok tt → n ≡ cond (is_ok answer) c.inputs 0 → rows ≡ (λ row. is_ok answer && solves c row)
    → f n rows ≡ f c.inputs (solves c)
decided f answer c n rows went inputs sets = rw (inputs, sets, went)

module _ (mode : ℕ) (c : Netlist) (register : List Entry) (answer made : Result (Unit {0}) TableFault) (n : ℕ) (rows : ℕ → Bool)
    (same : answer ≡ made) (went : answer ≡ Ok tt) (inputs : n ≡ cond (is_ok answer) c.inputs 0) (sets : rows ≡ (λ row. is_ok answer && solves c row)) where
  pub decided_text_lem : (text : List ℕ) (o : Outcome) → o ≡ rows_text mode n rows register text → o ≡ decided_text made mode c register text
  decided_text_lem text o e = e ∙ decided (λ k S. rows_text mode k S register text) answer c n rows went inputs sets ∙ rw (← same, went)

  pub decided_register_lem : (register' : List Entry) → register' ≡ rows_register mode n rows register → register' ≡ decided_register made mode c register
  decided_register_lem register' e = e ∙ decided (λ k S. rows_register mode k S register) answer c n rows went inputs sets ∙ rw (← same, went)

-- ---- the decider is chosen by the number of inputs

module _ (room : Room) (c : Netlist) where
  pub few_making : c.inputs ≤ max_table_inputs → table_answer c room.bits room.words ≡ making_of room c
  few_making few = sym (cond-true (leb c.inputs max_table_inputs) _ _ (le-leb c.inputs max_table_inputs few))

  pub many_making : max_table_inputs < c.inputs → made_of c room.signals ≡ making_of room c
  many_making many = sym (cond-false (leb c.inputs max_table_inputs) _ _ (lt-leb c.inputs max_table_inputs many))

  -- and no table is made for many
  pub no_table : max_table_inputs < c.inputs → (words : ℕ) (bits : List ℕ) → tabulated c words bits ≡ bits
  no_table many words bits = ap (λ (a : Result (Unit {0}) TableFault). after bits a (λ _. filled c.inputs (solves c) bits)) (cond-true (ltb max_table_inputs c.inputs) _ _ (lt-ltb max_table_inputs c.inputs many))

-- ---- and the circuit is the file's

module _ (room : Room) (c : Netlist) (file table : List ℕ) (r : Reading) (reads : (table, Ok r) ≡ read_of file room.gate_table) (taken : c ≡ taken_up r table) where
  pub file_after : {X : Type 0} (was : X) (more : Netlist → X) → more c ≡ after_reading was file room more
  file_after {X} was more = ap more taken ∙ ap (λ (a : Answer). after was a.1 (λ q. more (taken_up q a.0))) reads

  module _ (mode : ℕ) (register : List Entry) (made : Result (Unit {0}) TableFault) (same : made ≡ making_of room c) where
    pub file_text : (text : List ℕ) (o : Outcome) → o ≡ decided_text made mode c register text → o ≡ list_of file mode room register text
    file_text text o e =
        e ∙ ap (λ (m : Result (Unit {0}) TableFault). decided_text m mode c register text) same
        ∙ ap (λ (d : Netlist). circuit_text room mode d register text) taken
        ∙ ap (λ (a : Answer). go_on at_reading text a.1 (λ q. circuit_text room mode (taken_up q a.0) register text)) reads

    pub file_register : (register' : List Entry) → register' ≡ decided_register made mode c register → register' ≡ register_after file mode room register
    file_register register' e =
        e ∙ ap (λ (m : Result (Unit {0}) TableFault). decided_register m mode c register) same
        ∙ file_after register (λ d. decided_register (making_of room d) mode d register)

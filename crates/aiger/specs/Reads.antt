-- The whole file: the gate table and the answer, for every list of bytes. Assumes nothing.
--
--   answer         what the gate table holds after, and the reading or the first fault
--   into_of bs t   the file bs read over a table t
--   read_of bs n   the file bs read into a table of n words, whatever they were: where it is refused, all of them are 0
use Rattle.std.specs.Prelude.{ℕ, cond, List, length, replicate, Ok, Err, Result, nat_lt}
use Rattle.circuit.specs.declared.reading.Reading.{Reading}
use Rattle.faults.specs.Reports.{max_file_bytes}
use Rattle.faults.specs.declared.circuit.CircuitFault.{CircuitFault}
use Rattle.faults.specs.declared.circuit.CircuitFault.TheVariants.{Text}
use Rattle.text.specs.Runs.{next}
use Rattle.aiger.specs.FaultLines.{too_long, located_in}
use Rattle.aiger.specs.Lines.{keep, header_read, header_fits, inputs_at, output_at, gates_at}
use Rattle.aiger.specs.Symbols.{symbols_at}
use Rattle.aiger.specs.declared.header.Header.{Header}

abbrev pub Answer : Type 0
Answer = List ℕ × Result Reading CircuitFault

-- the symbols after the gates
abbrev pub rest_of : List ℕ → Header → ℕ → List ℕ × Result ℕ CircuitFault → Answer
rest_of bs h output g =
    keep (λ e. e) g.0 g.1 (λ p. (g.0, next (symbols_at bs p h.inputs) (λ u. Ok (record { inputs = h.inputs; gates = h.gates; output = output }))))

-- the lines after the header
abbrev pub body_of : List ℕ → List ℕ → Header → ℕ → Answer
body_of bs t h p =
    keep (λ e. e) t (inputs_at bs p 1 h.inputs) (λ q. keep (λ e. e) t (output_at bs q h.highest h.inputs) (λ o. rest_of bs h o.0 (gates_at bs h.inputs 0 h.gates o.1 t)))

abbrev pub lines_of : List ℕ → List ℕ → Answer
lines_of bs t = keep Text t (located_in bs (header_read bs)) (λ h. keep (λ e. e) t (header_fits h.0 (length t)) (λ u. body_of bs t h.0 h.1))

abbrev pub into_of : List ℕ → List ℕ → Answer
into_of bs t = cond (nat_lt max_file_bytes (length bs)) (t, Err too_long) (lines_of bs t)

abbrev pub settled : ℕ → List ℕ → Result Reading CircuitFault → Answer
settled n t (Ok r) = (t, Ok r)
settled n t (Err e) = (replicate n 0, Err e)

abbrev pub read_of : List ℕ → ℕ → Answer
read_of bs n = settled n (into_of bs (replicate n 0)).0 (into_of bs (replicate n 0)).1

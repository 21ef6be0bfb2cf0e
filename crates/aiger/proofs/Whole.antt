-- The whole file, part after part. Assumes nothing.
use Rattle.std.proofs.Common.{◌≡◌, ℕ, ◌≤◌, List, length, Ok, Result, sym, ap, ◌∙◌}
use Rattle.std.proofs.lemmas.Bool.{cond-false, le-ltb}
use Rattle.faults.specs.Reports.{max_file_bytes}
use Rattle.faults.specs.declared.circuit.Located.{Located}
use Rattle.faults.specs.declared.circuit.CircuitFault.{CircuitFault}
use Rattle.faults.specs.declared.circuit.CircuitFault.TheVariants.{Text}
use Rattle.text.specs.Runs.{next}
use Rattle.aiger.specs.FaultLines.{located_in}
use Rattle.aiger.specs.Lines.{keep, header_read, header_fits, inputs_at, output_at, gates_at}
use Rattle.aiger.specs.Symbols.{symbols_at}
use Rattle.aiger.specs.Reads.{Answer, rest_of, into_of}
use Rattle.aiger.specs.declared.header.Header.{Header}

-- a part that went well
kept : {X Y E F : Type 0} (f : E → F) (t : List ℕ) (r : Result X E) (k : X → List ℕ × Result Y F) (x : X) → Ok x ≡ r → keep f t r k ≡ k x
kept f t r k x e = ap (λ r. keep f t r k) (sym e)

pub till_gates : (bs t : List ℕ) (h : Header) (p q : ℕ) (o : ℕ × ℕ) (u : Unit {0}) → length bs ≤ max_file_bytes
    → ◌≡◌ {A = Result (Header × ℕ) Located} (Ok (h, p)) (located_in bs (header_read bs))
    → ◌≡◌ {A = Result (Unit {0}) CircuitFault} (Ok u) (header_fits h (length t))
    → ◌≡◌ {A = Result ℕ CircuitFault} (Ok q) (inputs_at bs p 1 h.inputs)
    → ◌≡◌ {A = Result (ℕ × ℕ) CircuitFault} (Ok o) (output_at bs q h.highest h.inputs)
    → into_of bs t ≡ rest_of bs h o.0 (gates_at bs h.inputs 0 h.gates o.1 t)
till_gates bs t h p q o u few eh ef ei eo =
    cond-false _ _ _ (le-ltb max_file_bytes (length bs) few)
    ∙ kept Text t _ _ (h, p) eh ∙ kept (λ e. e) t _ _ u ef ∙ kept (λ e. e) t _ _ q ei ∙ kept (λ e. e) t _ _ o eo

abbrev symbolic : List ℕ → Header → ℕ → ℕ → List ℕ → Answer
symbolic bs h out p t = (t, next (symbols_at bs p h.inputs) (λ u. Ok (record { inputs = h.inputs; gates = h.gates; output = out })))

pub past_gates : (bs t : List ℕ) (h : Header) (out p : ℕ) (g : List ℕ × Result ℕ CircuitFault) → ◌≡◌ {A = List ℕ × Result ℕ CircuitFault} (t, Ok p) g
    → rest_of bs h out g ≡ symbolic bs h out p t
past_gates bs t h out p g e = ap (rest_of bs h out) (sym e)

pub symbols_good : (bs t : List ℕ) (h : Header) (out p : ℕ) (u : Unit {0}) → ◌≡◌ {A = Result (Unit {0}) CircuitFault} (Ok u) (symbols_at bs p h.inputs) → symbolic bs h out p t ≡ (t, Ok (record { inputs = h.inputs; gates = h.gates; output = out }))
symbols_good bs t h out p u e = ap (λ (r : Result (Unit {0}) CircuitFault). (t, next r (λ u. Ok (record { inputs = h.inputs; gates = h.gates; output = out })))) (sym e)

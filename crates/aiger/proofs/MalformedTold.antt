-- What is true of a file is told: a line that is malformed, at its place, and a rule that is broken. Assumes nothing.
use Rattle.std.proofs.Common.{◌≡◌, false, ℕ, zero, suc, ◌+◌, ◌*◌, ◌<◌, ◌≤◌, List, [], ◌∷◌, ◌++◌, length, drop, replicate, Err, Result, sym, refl, ap, ◌∙◌, subst, inr, arith}
use Rattle.std.proofs.lemmas.Bool.{cond-true, lt-ltb}
use Rattle.std.proofs.lemmas.Bool.Decides.{nat_tests}
use Rattle.circuit.specs.declared.reading.Reading.{Reading}
use Rattle.faults.specs.Reports.{max_file_bytes}
use Rattle.faults.specs.declared.circuit.CircuitFault.{CircuitFault}
use Rattle.faults.specs.declared.circuit.CircuitFault.TheVariants.{Text, Broken}
use Rattle.faults.specs.declared.text.TextFault.{TextFault}
use Rattle.faults.specs.declared.text.TextFault.TheVariants.{TooLong, Misfit, BadNumber}
use Rattle.text.specs.Lines.{item_at}
use Rattle.aiger.specs.FaultLines.{located_at, located_in}
use Rattle.aiger.specs.Lines.{header_read, inputs_at, output_at, gate_at, gates_at, wrote}
use Rattle.aiger.specs.Reads.{Answer, into_of, settled, read_of}
use Rattle.aiger.specs.Told.{Says, Told}
use Rattle.aiger.specs.Grammar.{InputLines, GateLines}
use Rattle.aiger.specs.Malformed.{Kind, header, Begins, Loose, Due, at_header, at_input, at_output, at_gate, at_closing, LineMalformed, Malformed}
use Rattle.aiger.proofs.NumberTexts.{number_line_read}
use Rattle.aiger.proofs.GateTexts.{gate_of, gate_read, fits_read}
use Rattle.aiger.proofs.Pieces.{Faulty}
use Rattle.aiger.proofs.LineFaults.{item_within, gate_within}
use Rattle.aiger.specs.declared.states.SymbolFault.TheVariants.{Text as SymbolText}
use Rattle.aiger.specs.Symbols.{slots}
use Rattle.aiger.proofs.Apart.{all_in, apart_free}
use Rattle.aiger.proofs.SymbolTexts.{Misread, Lines}
use Rattle.aiger.proofs.SymbolsRead.{symbols_read, strays_read}
use Rattle.aiger.proofs.LinesTold.{Line, literal_told, gate_told, header_told}
use Rattle.aiger.proofs.Says.{says}
use Rattle.aiger.proofs.BrokenTold.{table, told, lost, short, after_header, after_inputs, after_output, after_gates}

-- the lines of the inputs, of the output and of the gates

located : {X : Type 0} (bs : List ℕ) (r : Result X TextFault) (e : TextFault) → r ≡ Err e → located_in bs r ≡ Err (located_at bs e)
located bs r e h = ap (located_in bs) h

inputs_malformed : (j n k p : ℕ) (bs here : List ℕ) (e : TextFault) → j < n → p ≤ length bs → InputLines k j (drop p bs) here → Line 0 bs here e → inputs_at bs p k n ≡ Err (Text (located_at bs e))
inputs_malformed j zero k p bs here e among low lines f = absurd (omega arith)
inputs_malformed zero (suc n) k p bs here e among low lines f =
    let r = located bs (item_at bs p 10) e (literal_told bs p e low (subst (λ (ts : List ℕ). Line 0 bs ts e) (sym lines) f)) in
    grind (arith, r)
inputs_malformed (suc j) (suc n) k p bs here e among low (mid, line, lines) f =
    let a = number_line_read bs p (2 * k) mid line in
    let b = inputs_malformed j n (k + 1) a.0 bs here e (omega arith) (item_within bs p 10 (2 * k, a.0) a.1) (subst (λ (l : List ℕ). InputLines (k + 1) j l here) (sym a.2) lines) f in
    grind (arith, nat_tests, a.1, b)

output_malformed : (p hi i : ℕ) (bs : List ℕ) (e : TextFault) → p ≤ length bs → Line 0 bs (drop p bs) e → output_at bs p hi i ≡ Err (Text (located_at bs e))
output_malformed p hi i bs e low f = let r = located bs (item_at bs p 10) e (literal_told bs p e low f) in grind (arith, r)

abbrev Gates : Type 0
Gates = List ℕ × Result ℕ CircuitFault

gates_malformed : (gs : List (ℕ × ℕ)) (n i k p : ℕ) (bs t here : List ℕ) (e : TextFault) → length gs < n → p ≤ length bs → GateLines i k gs (drop p bs) here → Line 2 bs here e
    → (gates_at bs i k n p t).1 ≡ Err (Text (located_at bs e))
gates_malformed gs zero i k p bs t here e among low lines f = absurd (omega arith)
gates_malformed [] (suc n) i k p bs t here e among low lines f =
    let r = located bs (gate_at bs p) e (gate_told bs p e low (subst (λ (ts : List ℕ). Line 2 bs ts e) (sym lines) f)) in
    grind (arith, r)
gates_malformed (g ∷ gs) (suc n) i k p bs t here e among low (mid, (l, r, line), lines) f =
    let own = 2 * (i + 1 + k) in
    let a = gate_read bs p own g mid line in
    let c = gates_malformed gs n i (k + 1) a.0 bs (wrote t k (gate_of own g)) here e (omega arith) (gate_within bs p (gate_of own g, a.0) a.1) (subst (λ (l : List ℕ). GateLines i (k + 1) gs l here) (sym a.2) lines) f in
    grind (arith, a.1, fits_read i k g l r, c)

-- the whole file

module _ (bs : List ℕ) (w : ℕ) where
  malformed_line : (kind : Kind) (here : List ℕ) (e : TextFault) → Due bs w kind here → Faulty (Begins kind) (Loose kind) bs here e → (into_of bs (table bs w)).1 ≡ Err (Text (located_at bs e))
  malformed_line header here e (at_header few) f =
      short bs w _ few (lost Text (table bs w) _ _ _ (located bs (header_read bs) e (header_told bs e f)))
  malformed_line kind here e (at_input h k here' u among) f =
      after_header bs w h k here u _ (λ p low at. lost (λ e. e) (table bs w) _ _ _
      (inputs_malformed k h.inputs 1 p bs here e among low (subst (λ (l : List ℕ). InputLines 1 k l here) (sym at) u.inputs) f))
  malformed_line kind here e (at_output h here' u) f =
      after_inputs bs w h here u _ (λ q low at. lost (λ e. e) (table bs w) _ _ _ (output_malformed q h.highest h.inputs bs e low (subst (λ (ts : List ℕ). Line 0 bs ts e) (sym at) f)))
  malformed_line kind here e (at_gate h gs here' u among) f =
      after_output bs w h gs here u _ (λ p low at.
      let g = gates_at bs h.inputs 0 h.gates p (table bs w) in
      lost (λ e. e) g.0 g.1 _ _ (gates_malformed gs h.gates h.inputs 0 p bs (table bs w) here e among low (subst (λ (l : List ℕ). GateLines h.inputs 0 gs l here) (sym at) u.gates) f))
  malformed_line kind here e (at_closing h gs symbols after here' u count lines apart) f =
      let z = replicate slots false in
      let whole : Lines bs (Misread e) h.inputs z after = record {
        symbols = symbols;
        here = here;
        lines = lines;
        free = apart_free h.inputs symbols u.inputs.limits.inputs (all_in h.inputs symbols after here lines) apart;
        last = inr (inr f);
      } in
      after_gates bs w h gs after u (SymbolText e) _ count refl (λ p at. symbols_read bs (Misread e) (strays_read bs e) p h.inputs (subst (Lines bs (Misread e) h.inputs z) (sym at) whole))

  of_line : (e : TextFault) → LineMalformed bs w e → (into_of bs (table bs w)).1 ≡ Err (Text (located_at bs e))
  of_line e m = malformed_line m.kind (m.front ++ m.here) e m.due (record { front = m.front; here = m.here; split = refl; begins = m.begins; why = m.why })

  malformed_told : (e : TextFault) → Malformed bs w e → (into_of bs (table bs w)).1 ≡ Err (Text (located_at bs e))
  malformed_told TooLong long = ap (λ (a : Answer). a.1) (cond-true _ _ _ (lt-ltb max_file_bytes (length bs) long))
  malformed_told (Misfit place) m = of_line (Misfit place) m
  malformed_told (BadNumber place) m = of_line (BadNumber place) m

  fault_told : (fault : CircuitFault) → Says bs w fault → (into_of bs (table bs w)).1 ≡ Err fault
  fault_told (Text located) (m, line) = malformed_told located.fault m ∙ (λ i. Err (Text (record { fault = located.fault; line = sym line i })))
  fault_told (Broken rule line) b = told bs w rule line b

pub answer_told : (bs : List ℕ) (n : ℕ) (z : List ℕ) (r : Result Reading CircuitFault) → ◌≡◌ {A = Answer} (z, r) (read_of bs n) → Told bs n r
answer_told bs n z r e =
    let i = into_of bs (replicate n 0) in
    record {
      says = says bs n z r e;
      tells = λ fault b. ap (λ (a : Answer). a.1) e ∙ ap (λ (x : Result Reading CircuitFault). (settled n i.0 x).1) (fault_told bs n fault b);
    }

-- A rule that is broken is told, on its line. Assumes nothing.
use Rattle.std.proofs.Common.{◌≡◌, ℕ, zero, suc, ◌+◌, ◌*◌, ◌<◌, ◌≤◌, true, false, not, ◌||◌, eqb, ltb, leb, List, [], ◌∷◌, length, drop, replicate, Ok, Err, Result, sym, ap, ◌∙◌, subst, inl, inr, arith}
use Rattle.std.specs.Result.{result_map_both}
use Rattle.std.proofs.lemmas.List.{length-replicate}
use Rattle.std.proofs.lemmas.Bool.{cond-true, cond-false, eqb-true, ltb-false, le-ltb, false_from_ne_true, true_from_ne_false}
use Rattle.std.proofs.lemmas.Bool.Decides.{nat_tests}
use Rattle.std.proofs.Math.Seq.{drop-append_seam}
use Rattle.circuit.specs.declared.reading.Reading.{Reading}
use Rattle.circuit.specs.Limits.{max_inputs, max_gates}
use Rattle.faults.specs.Reports.{max_file_bytes, rule_number}
use Rattle.faults.specs.declared.circuit.Rule.{Rule}
use Rattle.faults.specs.declared.circuit.Rule.TheVariants.{InputCount, LatchCount, OutputCount, GateCount, HighestVariable, GateTable, InputLine, OutputLiteral, GateLiteral, Operand, SymbolPosition}
use Rattle.faults.specs.declared.circuit.CircuitFault.{CircuitFault}
use Rattle.faults.specs.declared.circuit.CircuitFault.TheVariants.{Text, Broken}
use Rattle.text.specs.Places.{line_of}
use Rattle.text.specs.Runs.{next}
use Rattle.aiger.specs.FaultLines.{located_in}
use Rattle.aiger.specs.Lines.{keep, header_fits, inputs_at, output_at, gate_fits, wrote, gates_at}
use Rattle.aiger.specs.Symbols.{slots, first, refused_at}
use Rattle.aiger.specs.declared.states.SymbolFault.{SymbolFault}
use Rattle.aiger.specs.declared.states.SymbolFault.TheVariants.{NoSlot}
use Rattle.aiger.specs.Reads.{Answer, lines_of, into_of, rest_of, body_of}
use Rattle.aiger.specs.Grammar.{NumberLine, InputLines, GateLines}
use Rattle.aiger.specs.Refused.{Keeps, HeaderBroken, UpToInputs, InputBroken, OutputBroken, UpToGates, GateBreaks, GateBroken, SymbolBroken, BrokenBy}
use Rattle.aiger.specs.declared.header.Header.{Header}
use Rattle.aiger.proofs.SymbolSteps.{ran}
use Rattle.aiger.proofs.HeaderTexts.{header_read_lem, limits_read}
use Rattle.aiger.proofs.NumberTexts.{number_line_read}
use Rattle.aiger.proofs.LiteralTexts.{inputs_read, output_read}
use Rattle.aiger.proofs.GateTexts.{gate_of, gate_read, fits_read, filled, gates_read}
use Rattle.aiger.proofs.LineFaults.{header_within, inputs_within, output_within}
use Rattle.aiger.proofs.Says.{range_false, range_true, equal_false, equal_true, less_true, lines_cut}
use Rattle.aiger.proofs.Apart.{all_in, apart_free, breaks_taken}
use Rattle.aiger.proofs.LineCounts.{at_place}
use Rattle.aiger.proofs.SymbolTexts.{Refused, Lines}
use Rattle.aiger.proofs.SymbolsRead.{symbols_read}

-- line 1

equal_kept : (a b : ℕ) → a ≡ b → not (eqb a b) ≡ false
equal_kept a b k = false_from_ne_true _ (λ e. equal_true a b e k)

equal_wrong : (a b : ℕ) → (a ≡ b → ⊥) → not (eqb a b) ≡ true
equal_wrong a b k = true_from_ne_false _ (λ e. k (equal_false a b e))

less_kept : (a b : ℕ) → b ≤ a → ltb a b ≡ false
less_kept a b k = false_from_ne_true _ (λ e. less_true a b e k)

less_wrong : (a b : ℕ) → (b ≤ a → ⊥) → ltb a b ≡ true
less_wrong a b k = true_from_ne_false _ (λ e. k (ltb-false a b e))

module _ (h : Header) (w : ℕ) where
  input_kept : Keeps h w InputCount → (ltb h.inputs 1 || ltb max_inputs h.inputs) ≡ false
  input_kept k = false_from_ne_true _ (λ e. range_true h.inputs e k)

  header_wrong : (rule : Rule) → (Keeps h w rule → ⊥) → ((other : Rule) → rule_number other < rule_number rule → Keeps h w other) → header_fits h w ≡ Err (Broken rule 1)
  header_wrong InputCount b o = cond-true _ _ _ (true_from_ne_false _ (λ e. b (range_false h.inputs e)))
  header_wrong LatchCount b o = cond-false _ _ _ (input_kept (o InputCount (omega arith))) ∙ cond-true _ _ _ (equal_wrong h.latches 0 b)
  header_wrong OutputCount b o =
      cond-false _ _ _ (input_kept (o InputCount (omega arith))) ∙ cond-false _ _ _ (equal_kept h.latches 0 (o LatchCount (omega arith))) ∙ cond-true _ _ _ (equal_wrong h.outputs 1 b)
  header_wrong GateCount b o =
      cond-false _ _ _ (input_kept (o InputCount (omega arith))) ∙ cond-false _ _ _ (equal_kept h.latches 0 (o LatchCount (omega arith))) ∙ cond-false _ _ _ (equal_kept h.outputs 1 (o OutputCount (omega arith)))
      ∙ cond-true _ _ _ (less_wrong max_gates h.gates b)
  header_wrong HighestVariable b o =
      cond-false _ _ _ (input_kept (o InputCount (omega arith))) ∙ cond-false _ _ _ (equal_kept h.latches 0 (o LatchCount (omega arith))) ∙ cond-false _ _ _ (equal_kept h.outputs 1 (o OutputCount (omega arith)))
      ∙ cond-false _ _ _ (less_kept max_gates h.gates (o GateCount (omega arith))) ∙ cond-true _ _ _ (equal_wrong h.highest _ b)
  header_wrong GateTable b o =
      cond-false _ _ _ (input_kept (o InputCount (omega arith))) ∙ cond-false _ _ _ (equal_kept h.latches 0 (o LatchCount (omega arith))) ∙ cond-false _ _ _ (equal_kept h.outputs 1 (o OutputCount (omega arith)))
      ∙ cond-false _ _ _ (less_kept max_gates h.gates (o GateCount (omega arith))) ∙ cond-false _ _ _ (equal_kept h.highest _ (o HighestVariable (omega arith)))
      ∙ cond-true _ _ _ (less_wrong w (2 * h.gates) b)
  header_wrong InputLine b o = absurd (b tt)
  header_wrong OutputLiteral b o = absurd (b tt)
  header_wrong GateLiteral b o = absurd (b tt)
  header_wrong Operand b o = absurd (b tt)
  header_wrong SymbolPosition b o = absurd (b tt)

-- the lines of the inputs and of the output

inputs_wrong : (j n k p v : ℕ) (bs here rest : List ℕ) → j < n → InputLines k j (drop p bs) here → NumberLine (v ∷ []) here rest → (v ≡ 2 * (k + j) → ⊥)
    → inputs_at bs p k n ≡ Err (Broken InputLine (k + j + 1))
inputs_wrong j zero k p v bs here rest among lines line b = absurd (omega arith)
inputs_wrong zero (suc n) k p v bs here rest among e line b =
    let a = number_line_read bs p v rest (subst (λ (l : List ℕ). NumberLine (v ∷ []) l rest) (sym e) line) in
    let wrong : eqb v (2 * k) ≡ false = false_from_ne_true _ (λ t. b (let s = eqb-true v (2 * k) t in omega arith)) in
    grind (arith, nat_tests, a.1, wrong)
inputs_wrong (suc j) (suc n) k p v bs here rest among (mid, first, more) line b =
    let a = number_line_read bs p (2 * k) mid first in
    let c = inputs_wrong j n (k + 1) a.0 v bs here rest (omega arith) (subst (λ (l : List ℕ). InputLines (k + 1) j l here) (sym a.2) more) line (λ s. b (omega (arith, s))) in
    grind (arith, nat_tests, a.1, c)

output_wrong : (p hi i v : ℕ) (bs rest : List ℕ) → NumberLine (v ∷ []) (drop p bs) rest → 2 * hi + 1 < v → output_at bs p hi i ≡ Err (Broken OutputLiteral (i + 2))
output_wrong p hi i v bs rest line b =
    let a = number_line_read bs p v rest line in
    grind (arith, nat_tests, a.1)

-- the lines of the gates

gate_wrong : (own : ℕ) (g : ℕ × ℕ) (i k : ℕ) (rule : Rule) → GateBreaks (2 * (i + 1 + k)) own g rule → gate_fits (gate_of own g) i k ≡ Err (Broken rule (i + 3 + k))
gate_wrong own g i k InputCount b = absurd b
gate_wrong own g i k LatchCount b = absurd b
gate_wrong own g i k OutputCount b = absurd b
gate_wrong own g i k GateCount b = absurd b
gate_wrong own g i k HighestVariable b = absurd b
gate_wrong own g i k GateTable b = absurd b
gate_wrong own g i k InputLine b = absurd b
gate_wrong own g i k OutputLiteral b = absurd b
gate_wrong own g i k GateLiteral b = cond-true _ _ _ (true_from_ne_false _ (λ e. b (equal_false own _ e)))
gate_wrong own g i k Operand (same, b) =
    cond-false _ _ _ (false_from_ne_true _ (λ e. equal_true own _ e same)) ∙ cond-true _ _ _ (true_from_ne_false _ (λ e. b (operands_false own g.0 g.1 e)))
  where
    operands_false : (own left right : ℕ) → (leb own left || leb own right) ≡ false → (left < own) × (right < own)
    operands_false own left right e = (grind (arith, nat_tests), grind (arith, nat_tests))
gate_wrong own g i k SymbolPosition b = absurd b

abbrev Gates : Type 0
Gates = List ℕ × Result ℕ CircuitFault

gates_wrong : (gs : List (ℕ × ℕ)) (n i k p own : ℕ) (g : ℕ × ℕ) (rule : Rule) (bs t here rest : List ℕ) → length gs < n → GateLines i k gs (drop p bs) here
    → NumberLine (own ∷ g.0 ∷ g.1 ∷ []) here rest → GateBreaks (2 * (i + 1 + k + length gs)) own g rule → (gates_at bs i k n p t).1 ≡ Err (Broken rule (i + 3 + k + length gs))
gates_wrong gs zero i k p own g rule bs t here rest among lines line b = absurd (omega arith)
gates_wrong [] (suc n) i k p own g rule bs t here rest among e line b =
    let a = gate_read bs p own g rest (subst (λ (l : List ℕ). NumberLine (own ∷ g.0 ∷ g.1 ∷ []) l rest) (sym e) line) in
    let due : 2 * (i + 1 + k + 0) ≡ 2 * (i + 1 + k) = omega arith in
    let c = gate_wrong own g i k rule (subst (λ (d : ℕ). GateBreaks d own g rule) due b) in
    grind (arith, a.1, c)
gates_wrong (f ∷ gs) (suc n) i k p own g rule bs t here rest among (mid, (l, r, first), more) line b =
    let a = gate_read bs p (2 * (i + 1 + k)) f mid first in
    let due : 2 * (i + 1 + k + suc (length gs)) ≡ 2 * (i + 1 + (k + 1) + length gs) = omega arith in
    let c = gates_wrong gs n i (k + 1) a.0 own g rule bs (wrote t k (gate_of (2 * (i + 1 + k)) f)) here rest (omega arith) (subst (λ (l : List ℕ). GateLines i (k + 1) gs l here) (sym a.2) more) line (subst (λ (d : ℕ). GateBreaks d own g rule) due b) in
    grind (arith, a.1, fits_read i k f l r, c)

-- the whole file

-- a part that went well, and one that did not
pub kept : {X Y E F : Type 0} (f : E → F) (t : List ℕ) (r : Result X E) (k : X → List ℕ × Result Y F) (x : X) (a : Result Y F) → r ≡ Ok x → (k x).1 ≡ a → (keep f t r k).1 ≡ a
kept f t r k x a e h = ap (λ r. (keep f t r k).1) e ∙ h

pub lost : {X Y E F : Type 0} (f : E → F) (t : List ℕ) (r : Result X E) (k : X → List ℕ × Result Y F) (d : E) → r ≡ Err d → (keep f t r k).1 ≡ Err (f d)
lost f t r k d e = ap (λ r. (keep f t r k).1) e

module _ (bs : List ℕ) (w : ℕ) where
  abbrev pub table : List ℕ
  table = replicate w 0

  -- the answer of the lines is that of the file
  pub short : (a : Result Reading CircuitFault) → length bs ≤ max_file_bytes → (lines_of bs table).1 ≡ a → (into_of bs table).1 ≡ a
  short a few h = ap (λ (x : Answer). x.1) (cond-false _ _ _ (le-ltb max_file_bytes (length bs) few)) ∙ h

  header_told : (rule : Rule) (line : ℕ) → HeaderBroken bs w rule line → (into_of bs table).1 ≡ Err (Broken rule line)
  header_told rule line b =
      let h = b.h in
      let eh = header_read_lem bs h b.rest b.header in
      short _ b.few
      (kept Text table _ _ (h, eh.0) _ (ap (located_in bs) eh.1)
      (lost (λ e. e) table _ _ _ (ap (header_fits h) (length-replicate w 0) ∙ header_wrong h w rule b.breaks b.others ∙ (λ i. Err (Broken rule (sym b.line_is i))))))

  -- up to the inputs, from the answer of the lines after the header
  pub after_header : (h : Header) (k : ℕ) (here : List ℕ) (u : UpToInputs bs w h k here) (a : Result Reading CircuitFault)
      → ((p : ℕ) → p ≤ length bs → drop p bs ≡ u.after_header → (body_of bs table h p).1 ≡ a) → (into_of bs table).1 ≡ a
  after_header h k here u a f =
      let eh = header_read_lem bs h u.after_header u.header in
      short a u.few
      (kept Text table _ _ (h, eh.0) a (ap (located_in bs) eh.1)
      (kept (λ e. e) table _ _ tt a (ap (header_fits h) (length-replicate w 0) ∙ limits_read h w u.limits) (f eh.0 (header_within bs (h, eh.0) eh.1) eh.2)))

  input_told : (line : ℕ) → InputBroken bs w line → (into_of bs table).1 ≡ Err (Broken InputLine line)
  input_told line b =
      let h = b.h in
      let line_is : 1 + b.k + 1 ≡ line = omega (arith, b.line_is) in
      after_header h b.k b.here b.before _ (λ p low e. lost (λ e. e) table (inputs_at bs p 1 h.inputs) _ _
      (inputs_wrong b.k h.inputs 1 p b.v bs b.here b.rest b.among (subst (λ (l : List ℕ). InputLines 1 b.k l b.here) (sym e) b.before.inputs) b.number (λ s. b.breaks (omega (arith, s)))
      ∙ (λ i. Err (Broken InputLine (line_is i)))))

  -- up to the output
  pub after_inputs : (h : Header) (here : List ℕ) (u : UpToInputs bs w h h.inputs here) (a : Result Reading CircuitFault)
      → ((q : ℕ) → q ≤ length bs → drop q bs ≡ here → (keep (λ e. e) table (output_at bs q h.highest h.inputs) (λ o. rest_of bs h o.0 (gates_at bs h.inputs 0 h.gates o.1 table))).1 ≡ a) → (into_of bs table).1 ≡ a
  after_inputs h here u a f =
      after_header h h.inputs here u a (λ p low e.
      let ei = inputs_read h.inputs 1 p bs here (subst (λ (l : List ℕ). InputLines 1 h.inputs l here) (sym e) u.inputs) in
      kept (λ e. e) table _ _ ei.0 a ei.1 (f ei.0 (inputs_within h.inputs 1 p ei.0 bs low ei.1) ei.2))

  output_told : (line : ℕ) → OutputBroken bs w line → (into_of bs table).1 ≡ Err (Broken OutputLiteral line)
  output_told line b =
      let h = b.h in
      after_inputs h b.here b.before _ (λ q low e. lost (λ e. e) table (output_at bs q h.highest h.inputs) _ _
      (output_wrong q h.highest h.inputs b.v bs b.rest (subst (λ (l : List ℕ). NumberLine (b.v ∷ []) l b.rest) (sym e) b.number) b.breaks ∙ (λ i. Err (Broken OutputLiteral (sym b.line_is i)))))

  -- up to the gates
  pub after_output : (h : Header) (gs : List (ℕ × ℕ)) (here : List ℕ) (u : UpToGates bs w h gs here) (a : Result Reading CircuitFault)
      → ((p : ℕ) → p ≤ length bs → drop p bs ≡ u.after_output → (rest_of bs h u.output (gates_at bs h.inputs 0 h.gates p table)).1 ≡ a) → (into_of bs table).1 ≡ a
  after_output h gs here u a f =
      after_inputs h u.after_inputs u.inputs a (λ q low e.
      let eo = output_read bs q u.output h.highest h.inputs u.after_output u.output_below (subst (λ (l : List ℕ). NumberLine (u.output ∷ []) l u.after_output) (sym e) u.output_line) in
      kept (λ e. e) table _ _ (u.output, eo.0) a eo.1 (f eo.0 (output_within bs q h.highest h.inputs (u.output, eo.0) eo.1) eo.2))

  gate_told : (rule : Rule) (line : ℕ) → GateBroken bs w rule line → (into_of bs table).1 ≡ Err (Broken rule line)
  gate_told rule line b =
      let h = b.h in
      let u = b.before in
      let due : 2 * (h.inputs + 1 + length b.gs) ≡ 2 * (h.inputs + 1 + 0 + length b.gs) = omega arith in
      let line_is : h.inputs + 3 + 0 + length b.gs ≡ line = omega (arith, b.line_is) in
      after_output h b.gs b.here u _ (λ p low e.
      let g = gates_at bs h.inputs 0 h.gates p table in
      lost (λ e. e) g.0 g.1 _ _
      (gates_wrong b.gs h.gates h.inputs 0 p b.own b.g rule bs table b.here b.rest b.among (subst (λ (l : List ℕ). GateLines h.inputs 0 b.gs l b.here) (sym e) u.gates) b.numbers
      (subst (λ (d : ℕ). GateBreaks d b.own b.g rule) due b.breaks) ∙ (λ i. Err (Broken rule (line_is i)))))

  -- the symbol lines are refused
  symbol_lost : (h : Header) (output p : ℕ) (t : List ℕ) (g : List ℕ × Result ℕ CircuitFault) (e : SymbolFault) → g ≡ (t, Ok p) → ran (length bs) bs (first p h.inputs) ≡ Err e → (rest_of bs h output g).1 ≡ Err (refused_at bs e)
  symbol_lost h output p t g e eg r =
      let after : Result (Unit {0}) SymbolFault → Result Reading CircuitFault = λ r. next (result_map_both (λ u. u) (refused_at bs) r) (λ _. Ok (record { inputs = h.inputs; gates = h.gates; output = output })) in
      ap (λ (x : Gates). (rest_of bs h output x).1) eg ∙ ap after r

  -- behind the lines of all gates
  pub after_gates : (h : Header) (gs : List (ℕ × ℕ)) (here : List ℕ) (u : UpToGates bs w h gs here) (e : SymbolFault) (a : Result Reading CircuitFault) → length gs ≡ h.gates → Err (refused_at bs e) ≡ a
      → ((p : ℕ) → drop p bs ≡ here → ran (length bs) bs (first p h.inputs) ≡ Err e) → (into_of bs table).1 ≡ a
  after_gates h gs here u e a count same f =
      after_output h gs here u a (λ p low at.
      let g = gates_read gs h.inputs 0 p bs table here (subst (λ (l : List ℕ). GateLines h.inputs 0 gs l here) (sym at) u.gates) in
      let gates : gates_at bs h.inputs 0 h.gates p table ≡ (filled table 0 gs, Ok g.0) = ap (λ (n : ℕ). gates_at bs h.inputs 0 n p table) (sym count) ∙ g.1 in
      symbol_lost h u.output g.0 _ _ e gates (f g.0 g.2) ∙ same)

  symbol_told : (line : ℕ) → SymbolBroken bs w line → (into_of bs table).1 ≡ Err (Broken SymbolPosition line)
  symbol_told line b =
      let h = b.h in
      let u = b.before in
      let limits = u.inputs.limits in
      let v = all_in h.inputs b.symbols b.after_gates b.here b.lines in
      let cut = lines_cut bs w h b.gs b.after_gates b.symbols b.s b.here b.rest u b.lines b.form in
      let q = length cut.0 in
      let end : drop q bs ≡ 10 ∷ b.rest = ap (drop q) cut.1 ∙ drop-append_seam cut.0 (10 ∷ b.rest) in
      let count = at_place bs b.rest q 10 _ end cut in
      let line_is : line_of bs q ≡ line = omega (arith, count, b.line_is, b.count) in
      let wrong : Lines bs (Refused q) h.inputs (replicate slots false) b.after_gates = record {
        symbols = b.symbols;
        here = b.here;
        lines = b.lines;
        free = apart_free h.inputs b.symbols limits.inputs v b.apart;
        last = inr (inl (record { s = b.s; rest = b.rest; form = b.form; taken = (breaks_taken h.inputs b.s b.symbols limits.inputs v b.breaks, end) }));
      } in
      after_gates h b.gs b.after_gates u (NoSlot q) _ b.count (λ i. Err (Broken SymbolPosition (line_is i))) (λ p e.
      symbols_read bs (Refused q) (λ f p n z h a. absurd a) p h.inputs (subst (Lines bs (Refused q) h.inputs (replicate slots false)) (sym e) wrong))

  pub told : (rule : Rule) (line : ℕ) → BrokenBy bs w rule line → (into_of bs table).1 ≡ Err (Broken rule line)
  told InputCount line b = header_told InputCount line b
  told LatchCount line b = header_told LatchCount line b
  told OutputCount line b = header_told OutputCount line b
  told GateCount line b = header_told GateCount line b
  told HighestVariable line b = header_told HighestVariable line b
  told GateTable line b = header_told GateTable line b
  told InputLine line b = input_told line b
  told OutputLiteral line b = output_told line b
  told GateLiteral line b = gate_told GateLiteral line b
  told Operand line b = gate_told Operand line b
  told SymbolPosition line b = symbol_told line b

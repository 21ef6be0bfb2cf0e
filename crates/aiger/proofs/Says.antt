-- What is told of a file is true of it: it breaks the rule on the line, or its text is malformed at the place. Assumes nothing.
use Rattle.std.proofs.Common.{◌≡◌, ℕ, zero, suc, ◌+◌, ◌*◌, ◌<◌, ◌≤◌, true, false, not, ◌||◌, eqb, ltb, leb, List, [], ◌∷◌, length, drop, replicate, Ok, Err, IfErr, Result, sym, refl, ap, ◌∙◌, subst, arith}
use Rattle.std.specs.Result.{result_map_both}
use Rattle.std.proofs.lemmas.List.{length-replicate}
use Rattle.std.proofs.lemmas.Bool.{cond_both, eqb-true, eqb-false, ltb-true, ltb-false}
use Rattle.std.proofs.lemmas.Bool.Decides.{nat_tests}
use Rattle.circuit.specs.declared.reading.Reading.{Reading}
use Rattle.circuit.specs.Limits.{max_inputs, max_gates}
use Rattle.faults.specs.Reports.{max_file_bytes, rule_number}
use Rattle.faults.specs.declared.circuit.Rule.{Rule}
use Rattle.faults.specs.declared.circuit.Rule.TheVariants.{InputCount, LatchCount, OutputCount, GateCount, HighestVariable, GateTable, InputLine, OutputLiteral, GateLiteral, Operand, SymbolPosition}
use Rattle.faults.specs.declared.circuit.CircuitFault.{CircuitFault}
use Rattle.faults.specs.declared.circuit.CircuitFault.TheVariants.{Text, Broken}
use Rattle.text.specs.Lines.{item_at}
use Rattle.text.specs.Runs.{next}
use Rattle.text.specs.Places.{line_of}
use Rattle.faults.specs.declared.text.TextFault.{TextFault}
use Rattle.faults.specs.declared.text.TextFault.TheVariants.{TooLong, Misfit, BadNumber}
use Rattle.aiger.specs.FaultLines.{located_at, located_in}
use Rattle.aiger.specs.Lines.{up, keep, Within, header_read, header_fits, inputs_at, output_at, gate_at, gate_fits, gates_at}
use Rattle.aiger.specs.Symbols.{slots, first, refused_at}
use Rattle.aiger.specs.Reads.{Answer, lines_of, into_of, settled, read_of}
use Rattle.aiger.specs.Grammar.{NumberLine, HeaderLine, InputLines, GateLines, Symbol, SymbolForm, SymbolLines}
use Rattle.aiger.specs.Malformed.{Kind, header, numbers, closing, Begins, Loose, Due, at_header, at_input, at_output, at_gate, at_closing, LineMalformed, Malformed}
use Rattle.aiger.specs.Told.{Says}
use Rattle.aiger.specs.Refused.{Keeps, HeaderBroken, UpToInputs, UpToGates, GateBreaks, GateBroken, SymbolBroken}
use Rattle.aiger.specs.declared.gates.Gate.{Gate}
use Rattle.aiger.specs.declared.header.Header.{Header}
use Rattle.aiger.specs.declared.states.SymbolFault.{SymbolFault}
use Rattle.aiger.specs.declared.states.SymbolFault.TheVariants.{Text as SymbolText, NoSlot}
use Rattle.aiger.proofs.Carried.{told_ok}
use Rattle.aiger.proofs.HeaderTexts.{header_back, limits_back}
use Rattle.aiger.proofs.NumberTexts.{number_line_back}
use Rattle.aiger.proofs.LiteralTexts.{inputs_back, output_back}
use Rattle.aiger.proofs.SymbolSteps.{ran}
use Rattle.aiger.proofs.Apart.{all_in, free_apart, taken_breaks}
use Rattle.aiger.proofs.Pieces.{Faulty}
use Rattle.aiger.proofs.LineFaults.{literal_err, gate_err, header_err, item_within, gate_within, header_within, inputs_within, output_within}
use Rattle.aiger.proofs.SymbolTexts.{Refused, Misread, Lines, last_of, lost_of}
use Rattle.aiger.proofs.SymbolsBack.{symbols_back}
use Rattle.aiger.proofs.LineCounts.{Cut, join, line_cut, header_cut, inputs_cut, gates_cut, form_cut, symbols_cut, at_place}
use Rattle.aiger.proofs.GateTexts.{gate_back, fits_back, gates_back}

-- of a line that is due
malformed : (file : List ℕ) (words : ℕ) (kind : Kind) (here : List ℕ) (e : TextFault) → Due file words kind here → Faulty (Begins kind) (Loose kind) file here e → Malformed file words e
malformed file words kind here e due f = of_line e (record { kind = kind; front = f.front; here = f.here; due = subst (Due file words kind) f.split due; begins = f.begins; why = f.why })
  where
    of_line : (e : TextFault) → LineMalformed file words e → Malformed file words e
    of_line TooLong m = absurd m.why
    of_line (Misfit q) m = m
    of_line (BadNumber q) m = m

-- faults that are carried up

if_keep : {X Y E F : Type 0} (f : E → F) (t : List ℕ) (r : Result X E) (k : X → List ℕ × Result Y F) (P : F → Type 0)
    → IfErr r (λ e. P (f e)) → ((x : X) → r ≡ Ok x → IfErr (k x).1 P) → IfErr (keep f t r k).1 P
if_keep f t (Ok x) k P h g = g x refl
if_keep f t (Err e) k P h g = h

if_up : {X Y E F : Type 0} (f : E → F) (r : Result X E) (k : X → Result Y F) (P : F → Type 0)
    → IfErr r (λ e. P (f e)) → ((x : X) → r ≡ Ok x → IfErr (k x) P) → IfErr (up f r k) P
if_up f (Ok x) k P h g = g x refl
if_up f (Err e) k P h g = h

-- what holds of a fault of the text
if_located : {X : Type 0} (bs : List ℕ) (r : Result X TextFault) (P : CircuitFault → Type 0) → ((e : TextFault) → r ≡ Err e → P (Text (located_at bs e))) → IfErr (located_in bs r) (λ l. P (Text l))
if_located bs (Ok x) P f = tt
if_located bs (Err e) P f = f e refl

-- the rules of line 1

later : {A : Type 0} (m r : ℕ) → r ≤ m → m < r → A
later m r h l = absurd (omega arith)

-- the rules of numbers below r are kept
abbrev Below : Header → ℕ → ℕ → Type 0
Below h w r =
    (4 < r → Keeps h w InputCount) × (5 < r → Keeps h w LatchCount) × (6 < r → Keeps h w OutputCount) × (7 < r → Keeps h w GateCount) × (8 < r → Keeps h w HighestVariable) × (9 < r → Keeps h w GateTable)

each : (h : Header) (w r : ℕ) → Below h w r → (other : Rule) → rule_number other < r → Keeps h w other
each h w r (a, b, c, d, e, f) InputCount = a
each h w r (a, b, c, d, e, f) LatchCount = b
each h w r (a, b, c, d, e, f) OutputCount = c
each h w r (a, b, c, d, e, f) GateCount = d
each h w r (a, b, c, d, e, f) HighestVariable = e
each h w r (a, b, c, d, e, f) GateTable = f
each h w r k InputLine = λ _. tt
each h w r k OutputLiteral = λ _. tt
each h w r k GateLiteral = λ _. tt
each h w r k Operand = λ _. tt
each h w r k SymbolPosition = λ _. tt

-- a test of line 1 says whether the rule is kept

pub range_false : (i : ℕ) → (ltb i 1 || ltb max_inputs i) ≡ false → (1 ≤ i) × (i ≤ max_inputs)
range_false i e = (grind (arith, nat_tests), grind (arith, nat_tests))

pub range_true : (i : ℕ) → (ltb i 1 || ltb max_inputs i) ≡ true → (1 ≤ i) × (i ≤ max_inputs) → ⊥
range_true i e k = let a = k.0 in let b = k.1 in grind (arith, nat_tests)

pub equal_false : (a b : ℕ) → not (eqb a b) ≡ false → a ≡ b
equal_false a b e = grind (arith, nat_tests)

pub equal_true : (a b : ℕ) → not (eqb a b) ≡ true → a ≡ b → ⊥
equal_true a b e k = grind (arith, nat_tests)

pub less_true : (a b : ℕ) → ltb a b ≡ true → b ≤ a → ⊥
less_true a b e k = grind (arith, nat_tests)

module _ (bs : List ℕ) (w : ℕ) (few : length bs ≤ max_file_bytes) where
  broken : (h : Header) (rest : List ℕ) → HeaderLine h bs rest → (rule : Rule) → (Keeps h w rule → ⊥) → Below h w (rule_number rule) → HeaderBroken bs w rule 1
  broken h rest line rule wrong below = record { few = few; h = h; rest = rest; header = line; breaks = wrong; others = each h w (rule_number rule) below; line_is = refl }

  -- the rules before the one that is broken, in their order
  header_told : (h : Header) (rest : List ℕ) → HeaderLine h bs rest → IfErr (header_fits h w) (Says bs w)
  header_told h rest line =
      let P : Result (Unit {0}) CircuitFault → Type 0 = λ r. IfErr r (Says bs w) in
      cond_both (ltb h.inputs 1 || ltb max_inputs h.inputs) _ _ P
      (λ i. broken h rest line InputCount (range_true h.inputs i) (later 4 4 (omega arith), later 5 4 (omega arith), later 6 4 (omega arith), later 7 4 (omega arith), later 8 4 (omega arith), later 9 4 (omega arith)))
      (λ i. cond_both (not (eqb h.latches 0)) _ _ P
      (λ l. broken h rest line LatchCount (equal_true h.latches 0 l) ((λ _. range_false h.inputs i), later 5 5 (omega arith), later 6 5 (omega arith), later 7 5 (omega arith), later 8 5 (omega arith), later 9 5 (omega arith)))
      (λ l. cond_both (not (eqb h.outputs 1)) _ _ P
      (λ o. broken h rest line OutputCount (equal_true h.outputs 1 o)
      ((λ _. range_false h.inputs i), (λ _. equal_false h.latches 0 l), later 6 6 (omega arith), later 7 6 (omega arith), later 8 6 (omega arith), later 9 6 (omega arith)))
      (λ o. cond_both (ltb max_gates h.gates) _ _ P
      (λ g. broken h rest line GateCount (less_true max_gates h.gates g)
      ((λ _. range_false h.inputs i), (λ _. equal_false h.latches 0 l), (λ _. equal_false h.outputs 1 o), later 7 7 (omega arith), later 8 7 (omega arith), later 9 7 (omega arith)))
      (λ g. cond_both (not (eqb h.highest (h.inputs + h.latches + h.gates))) _ _ P
      (λ v. broken h rest line HighestVariable (equal_true h.highest _ v)
      ((λ _. range_false h.inputs i), (λ _. equal_false h.latches 0 l), (λ _. equal_false h.outputs 1 o), (λ _. ltb-false _ _ g), later 8 8 (omega arith), later 9 8 (omega arith)))
      (λ v. cond_both (ltb w (2 * h.gates)) _ _ P
      (λ t. broken h rest line GateTable (less_true w (2 * h.gates) t)
      ((λ _. range_false h.inputs i), (λ _. equal_false h.latches 0 l), (λ _. equal_false h.outputs 1 o), (λ _. ltb-false _ _ g), (λ _. equal_false h.highest _ v), later 9 9 (omega arith)))
      (λ _. tt))))))

-- the lines of the inputs and of the output

inputs_told : (P : CircuitFault → Type 0) (n k p : ℕ) (bs : List ℕ) → p ≤ length bs
    → ((j : ℕ) (here : List ℕ) (e : TextFault) → j < n → InputLines k j (drop p bs) here → Faulty (Begins (numbers 0)) (Loose (numbers 0)) bs here e → P (Text (located_at bs e)))
    → ((j v : ℕ) (here rest : List ℕ) → j < n → InputLines k j (drop p bs) here → NumberLine (v ∷ []) here rest → (v ≡ 2 * (k + j) → ⊥) → P (Broken InputLine (k + j + 1)))
    → IfErr (inputs_at bs p k n) P
inputs_told P zero k p bs low text f = tt
inputs_told P (suc n) k p bs low text f =
    if_up Text (located_in bs (item_at bs p 10)) _ P (if_located bs (item_at bs p 10) P (λ e r. text 0 (drop p bs) e (omega arith) refl (literal_err bs p e low r))) (λ v e.
    let item = told_ok (located_at bs) _ _ e in
    let line = number_line_back bs p v item in
    cond_both (eqb v.0 (2 * k)) _ _ (λ a. IfErr a P)
    (λ t.
    let more : (j : ℕ) (here : List ℕ) → InputLines (k + 1) j (drop v.1 bs) here → InputLines k (suc j) (drop p bs) here =
    λ j here lines. (drop v.1 bs, subst (λ (x : ℕ). NumberLine (x ∷ []) (drop p bs) (drop v.1 bs)) (eqb-true _ _ t) line, lines) in
    inputs_told P n (k + 1) v.1 bs (item_within bs p 10 v item) (λ j here e among lines wrong. text (suc j) here e (omega arith) (more j here lines) wrong)
    (λ j x here rest among lines number wrong.
    let line_is : k + suc j + 1 ≡ k + 1 + j + 1 = omega arith in
    subst (λ (l : ℕ). P (Broken InputLine l)) line_is (f (suc j) x here rest (omega arith) (more j here lines) number (λ s. wrong (omega (arith, s))))))
    (λ t.
    let line_is : k + 0 + 1 ≡ k + 1 = omega arith in
    subst (λ (l : ℕ). P (Broken InputLine l)) line_is (f 0 v.0 (drop p bs) (drop v.1 bs) (omega arith) refl line (λ s. eqb-false _ _ t (omega (arith, s))))))

output_told : (P : CircuitFault → Type 0) (hi i p : ℕ) (bs : List ℕ) → p ≤ length bs
    → ((e : TextFault) → Faulty (Begins (numbers 0)) (Loose (numbers 0)) bs (drop p bs) e → P (Text (located_at bs e)))
    → ((v : ℕ) (rest : List ℕ) → NumberLine (v ∷ []) (drop p bs) rest → 2 * hi + 1 < v → P (Broken OutputLiteral (i + 2)))
    → IfErr (output_at bs p hi i) P
output_told P hi i p bs low text f =
    if_up Text (located_in bs (item_at bs p 10)) _ P (if_located bs (item_at bs p 10) P (λ e r. text e (literal_err bs p e low r))) (λ v e.
    cond_both (ltb (2 * hi + 1) v.0) _ _ (λ a. IfErr a P) (λ t. f v.0 (drop v.1 bs) (number_line_back bs p v (told_ok (located_at bs) _ _ e)) (ltb-true _ _ t)) (λ _. tt))

-- the lines of the gates

pub operands_true : (own left right : ℕ) → (leb own left || leb own right) ≡ true → (left < own) × (right < own) → ⊥
operands_true own left right e k = let a = k.0 in let b = k.1 in grind (arith, nat_tests)

gate_told : (P : CircuitFault → Type 0) (g : Gate) (i k : ℕ) → ((rule : Rule) → GateBreaks (2 * (i + 1 + k)) g.own (g.left, g.right) rule → P (Broken rule (i + 3 + k))) → IfErr (gate_fits g i k) P
gate_told P g i k f =
    cond_both (not (eqb g.own (2 * (i + 1 + k)))) _ _ (λ r. IfErr r P) (λ t. f GateLiteral (equal_true _ _ t))
    (λ t. cond_both (leb g.own g.left || leb g.own g.right) _ _ (λ r. IfErr r P) (λ o. f Operand (equal_false _ _ t, operands_true g.own g.left g.right o)) (λ _. tt))

gates_told : (P : CircuitFault → Type 0) (n i k p : ℕ) (bs t : List ℕ) → p ≤ length bs
    → ((gs : List (ℕ × ℕ)) (here : List ℕ) (e : TextFault) → length gs < n → GateLines i k gs (drop p bs) here → Faulty (Begins (numbers 2)) (Loose (numbers 2)) bs here e → P (Text (located_at bs e)))
    → ((gs : List (ℕ × ℕ)) (own : ℕ) (g : ℕ × ℕ) (here rest : List ℕ) (rule : Rule) → length gs < n → GateLines i k gs (drop p bs) here → NumberLine (own ∷ g.0 ∷ g.1 ∷ []) here rest
    → GateBreaks (2 * (i + 1 + k + length gs)) own g rule → P (Broken rule (i + 3 + k + length gs)))
    → IfErr (gates_at bs i k n p t).1 P
gates_told P zero i k p bs t low text f = tt
gates_told P (suc n) i k p bs t low text f =
    if_keep Text t (located_in bs (gate_at bs p)) _ P (if_located bs (gate_at bs p) P (λ e r. text [] (drop p bs) e (omega arith) refl (gate_err bs p e low r))) (λ g e.
    let own = g.0.own in
    let ops : ℕ × ℕ = (g.0.left, g.0.right) in
    let gate = told_ok (located_at bs) _ _ e in
    let line = gate_back bs p g gate in
    if_keep (λ e. e) t (gate_fits g.0 i k) _ P
    (gate_told P g.0 i k (λ rule b.
    let due : 2 * (i + 1 + k) ≡ 2 * (i + 1 + k + 0) = omega arith in
    let line_is : i + 3 + k + 0 ≡ i + 3 + k = omega arith in
    subst (λ (l : ℕ). P (Broken rule l)) line_is (f [] own ops (drop p bs) (drop g.1 bs) rule (omega arith) refl line (subst (λ (d : ℕ). GateBreaks d own ops rule) due b))))
    (λ u fit.
    let fits = fits_back g.0 i k u fit in
    let good = subst (λ (own : ℕ). NumberLine (own ∷ g.0.left ∷ g.0.right ∷ []) (drop p bs) (drop g.1 bs)) fits.0 line in
    let more : (gs : List (ℕ × ℕ)) (here : List ℕ) → GateLines i (k + 1) gs (drop g.1 bs) here → GateLines i k (ops ∷ gs) (drop p bs) here =
    λ gs here lines. (drop g.1 bs, (omega (arith, fits.0, fits.1), omega (arith, fits.0, fits.2), good), lines) in
    gates_told P n i (k + 1) g.1 bs _ (gate_within bs p g gate) (λ gs here e among lines wrong. text (ops ∷ gs) here e (omega arith) (more gs here lines) wrong)
    (λ gs own' g' here rest rule among lines numbers b.
    let due : 2 * (i + 1 + (k + 1) + length gs) ≡ 2 * (i + 1 + k + suc (length gs)) = omega arith in
    let line_is : i + 3 + k + suc (length gs) ≡ i + 3 + (k + 1) + length gs = omega arith in
    subst (λ (l : ℕ). P (Broken rule l)) line_is
    (f (ops ∷ gs) own' g' here rest rule (omega arith) (more gs here lines) numbers (subst (λ (d : ℕ). GateBreaks d own' g' rule) due b)))))

-- the whole file

-- the rule of a gate's line that is broken
gate_rule : (bs : List ℕ) (w : ℕ) (due own : ℕ) (g : ℕ × ℕ) (rule : Rule) (line : ℕ) → GateBreaks due own g rule → GateBroken bs w rule line → Says bs w (Broken rule line)
gate_rule bs w due own g InputCount line b r = absurd b
gate_rule bs w due own g LatchCount line b r = absurd b
gate_rule bs w due own g OutputCount line b r = absurd b
gate_rule bs w due own g GateCount line b r = absurd b
gate_rule bs w due own g HighestVariable line b r = absurd b
gate_rule bs w due own g GateTable line b r = absurd b
gate_rule bs w due own g InputLine line b r = absurd b
gate_rule bs w due own g OutputLiteral line b r = absurd b
gate_rule bs w due own g GateLiteral line b r = r
gate_rule bs w due own g Operand line b r = r
gate_rule bs w due own g SymbolPosition line b r = absurd b

symbols_told : (P : CircuitFault → Type 0) (bs : List ℕ) (r : Result (Unit {0}) SymbolFault) (x : Reading) → ((e : SymbolFault) → r ≡ Err e → P (refused_at bs e))
    → IfErr (next (result_map_both (λ u. u) (refused_at bs) r) (λ u. Ok x)) P
symbols_told P bs (Ok u) x f = tt
symbols_told P bs (Err e) x f = f e refl

-- the lines up to the end of a symbol line
pub lines_cut : (bs : List ℕ) (w : ℕ) (h : Header) (gs : List (ℕ × ℕ)) (after : List ℕ) (symbols : List Symbol) (s : Symbol) (here rest : List ℕ) → UpToGates bs w h gs after
    → SymbolLines h.inputs symbols after here → SymbolForm s here rest → Cut bs (10 ∷ rest) (1 + (h.inputs + (1 + (length gs + (length symbols + 0)))))
lines_cut bs w h gs after symbols s here rest g lines form =
    let i = g.inputs in
    join bs i.after_header (10 ∷ rest) _ _ (header_cut h bs i.after_header i.header)
    (join i.after_header g.after_inputs (10 ∷ rest) _ _ (inputs_cut h.inputs 1 i.after_header g.after_inputs i.inputs)
    (join g.after_inputs g.after_output (10 ∷ rest) _ _ (line_cut (g.output ∷ []) g.after_inputs g.after_output g.output_line)
    (join g.after_output after (10 ∷ rest) _ _ (gates_cut gs h.inputs 0 g.after_output after g.gates)
    (join after here (10 ∷ rest) _ _ (symbols_cut h.inputs symbols after here lines) (form_cut s here rest form)))))

-- the line of a symbol whose position is refused
symbol_line : (bs : List ℕ) (w : ℕ) (h : Header) (gs : List (ℕ × ℕ)) (after : List ℕ) (place : ℕ) → UpToGates bs w h gs after → length gs ≡ h.gates
    → Lines bs (Refused place) h.inputs (replicate slots false) after → SymbolBroken bs w (line_of bs place)
symbol_line bs w h gs after place g count s =
    let i = g.inputs in
    let v = all_in h.inputs s.symbols after s.here s.lines in
    let last = last_of bs place h.inputs (replicate slots false) after s in
    let cut = lines_cut bs w h gs after s.symbols last.s s.here last.rest g s.lines last.form in
    let before = at_place bs last.rest place 10 _ last.taken.1 cut in
    record {
      h = h;
      gs = gs;
      symbols = s.symbols;
      s = last.s;
      after_gates = after;
      here = s.here;
      rest = last.rest;
      before = g;
      count = count;
      lines = s.lines;
      apart = free_apart h.inputs s.symbols i.limits.inputs v s.free;
      form = last.form;
      breaks = taken_breaks h.inputs last.s s.symbols i.limits.inputs v last.taken.0;
      line_is = omega (arith, before, count);
    }

-- a fault of the symbol lines
symbol_told : (bs : List ℕ) (w : ℕ) (h : Header) (gs : List (ℕ × ℕ)) (p : ℕ) → UpToGates bs w h gs (drop p bs) → length gs ≡ h.gates
    → (e : SymbolFault) → ran (length bs) bs (first p h.inputs) ≡ Err e → Says bs w (refused_at bs e)
symbol_told bs w h gs p g count (SymbolText e) r =
    let s = symbols_back bs (Misread e) p h.inputs r in
    let i = g.inputs in
    let apart = free_apart h.inputs s.symbols i.limits.inputs (all_in h.inputs s.symbols (drop p bs) s.here s.lines) s.free in
    (malformed bs w closing s.here e (at_closing h gs s.symbols (drop p bs) s.here g count s.lines apart) (lost_of bs e h.inputs (replicate slots false) (drop p bs) s), refl)
symbol_told bs w h gs p g count (NoSlot place) r = symbol_line bs w h gs (drop p bs) place g count (symbols_back bs (Refused place) p h.inputs r)

module _ (bs : List ℕ) (w : ℕ) (few : length bs ≤ max_file_bytes) where
  lines_told : (t : List ℕ) → length t ≡ w → IfErr (lines_of bs t).1 (Says bs w)
  lines_told t size =
      let P = Says bs w in
      if_keep Text t (located_in bs (header_read bs)) _ P
      (if_located bs (header_read bs) P (λ e er. (malformed bs w header bs e (at_header few) (header_err bs e er), refl))) (λ a ea.
      let h = a.0 in
      let read = told_ok (located_at bs) _ _ ea in
      let line1 = header_back bs a read in
      let low1 = header_within bs a read in
      if_keep (λ e. e) t (header_fits h (length t)) _ P (subst (λ (n : ℕ). IfErr (header_fits h n) P) (sym size) (header_told bs w few h (drop a.1 bs) line1)) (λ u eu.
      let limits : Within h w = limits_back h w u (sym (ap (header_fits h) size) ∙ eu) in
      if_keep (λ e. e) t (inputs_at bs a.1 1 h.inputs) _ P
      (inputs_told P h.inputs 1 a.1 bs low1
      (λ j here e among lines wrong. (malformed bs w (numbers 0) here e (at_input h j here (record { few = few; limits = limits; after_header = drop a.1 bs; header = line1; inputs = lines }) among) wrong, refl))
      (λ j v here rest among lines number wrong. record {
        h = h;
        k = j;
        v = v;
        here = here;
        rest = rest;
        before = record { few = few; limits = limits; after_header = drop a.1 bs; header = line1; inputs = lines };
        among = among;
        number = number;
        breaks = λ e. wrong (omega (arith, e));
        line_is = omega arith;
      }))
      (λ q eq.
      let inputs : UpToInputs bs w h h.inputs (drop q bs) = record { few = few; limits = limits; after_header = drop a.1 bs; header = line1; inputs = inputs_back h.inputs 1 a.1 q bs eq } in
      let low2 = inputs_within h.inputs 1 a.1 q bs low1 eq in
      if_keep (λ e. e) t (output_at bs q h.highest h.inputs) _ P
      (output_told P h.highest h.inputs q bs low2 (λ e wrong. (malformed bs w (numbers 0) (drop q bs) e (at_output h (drop q bs) inputs) wrong, refl)) (λ v rest number above. record { h = h; v = v; here = drop q bs; rest = rest; before = inputs; number = number; breaks = above; line_is = refl }))
      (λ o eo.
      let out = output_back bs q h.highest h.inputs o eo in
      let g = gates_at bs h.inputs 0 h.gates o.1 t in
      let till_gate : (gs : List (ℕ × ℕ)) (here : List ℕ) → GateLines h.inputs 0 gs (drop o.1 bs) here → UpToGates bs w h gs here =
      λ gs here lines. record { after_inputs = drop q bs; after_output = drop o.1 bs; inputs = inputs; output = o.0; output_line = out.1; output_below = out.0; gates = lines } in
      if_keep (λ e. e) g.0 g.1 _ P
      (gates_told P h.gates h.inputs 0 o.1 bs t (output_within bs q h.highest h.inputs o eo)
      (λ gs here e among lines wrong. (malformed bs w (numbers 2) here e (at_gate h gs here (till_gate gs here lines) among) wrong, refl))
      (λ gs own ops here rest rule among lines nums b.
      let line_is : h.inputs + 3 + length gs ≡ h.inputs + 3 + 0 + length gs = omega arith in
      let due : 2 * (h.inputs + 1 + 0 + length gs) ≡ 2 * (h.inputs + 1 + length gs) = omega arith in
      gate_rule bs w _ own ops rule _ b (record {
        h = h;
        gs = gs;
        own = own;
        g = ops;
        here = here;
        rest = rest;
        before = till_gate gs here lines;
        among = among;
        numbers = nums;
        breaks = subst (λ (d : ℕ). GateBreaks d own ops rule) due b;
        line_is = sym line_is;
      })))
      (λ p ep.
      let back = gates_back h.gates h.inputs 0 o.1 p bs t g.0 (λ j. (g.0, ep j)) in
      symbols_told P bs (ran (length bs) bs (first p h.inputs)) _ (symbol_told bs w h back.0 p (till_gate back.0 (drop p bs) back.2) back.1))))))

into_told : (bs : List ℕ) (w : ℕ) → IfErr (into_of bs (replicate w 0)).1 (Says bs w)
into_told bs w =
    cond_both (ltb max_file_bytes (length bs)) _ _ (λ (a : Answer). IfErr a.1 (Says bs w)) (λ t. (ltb-true _ _ t, refl))
    (λ e. lines_told bs w (ltb-false _ _ e) (replicate w 0) (length-replicate w 0))

settled_told : (P : CircuitFault → Type 0) (n : ℕ) (t : List ℕ) (r : Result Reading CircuitFault) → IfErr r P → IfErr (settled n t r).1 P
settled_told P n t (Ok x) h = tt
settled_told P n t (Err e) h = h

if_is : (P : CircuitFault → Type 0) (r : Result Reading CircuitFault) (e : CircuitFault) → r ≡ Err e → IfErr r P → P e
if_is P r e same h = subst (λ (r : Result Reading CircuitFault). IfErr r P) same h

pub says : (bs : List ℕ) (n : ℕ) (z : List ℕ) (r : Result Reading CircuitFault) → ◌≡◌ {A = Answer} (z, r) (read_of bs n) → (e : CircuitFault) → r ≡ Err e → Says bs n e
says bs n z r e fault same =
    let i = into_of bs (replicate n 0) in
    if_is (Says bs n) r fault same (subst (λ (a : Answer). IfErr a.1 (Says bs n)) (sym e) (settled_told (Says bs n) n i.0 i.1 (into_told bs n)))

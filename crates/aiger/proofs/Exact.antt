-- The file is accepted exactly when it is a written circuit, and the answer is what is written. Assumes nothing.
use Rattle.std.proofs.Common.{◌≡◌, ℕ, ◌*◌, ◌≤◌, Bool, true, false, cond, ltb, List, [], ◌∷◌, length, drop, replicate, Ok, Err, Result, sym, refl, ap, ◌∙◌, subst, inl, arith}
use Rattle.std.specs.Result.{result_map_both}
use Rattle.std.proofs.lemmas.List.{length-replicate}
use Rattle.std.proofs.lemmas.Bool.{ltb-false}
use Rattle.circuit.specs.declared.reading.Reading.{Reading}
use Rattle.faults.specs.Reports.{max_file_bytes}
use Rattle.faults.specs.declared.circuit.CircuitFault.{CircuitFault}
use Rattle.faults.specs.declared.circuit.CircuitFault.TheVariants.{Text}
use Rattle.text.proofs.Answers.{next_ok, ok_same}
use Rattle.aiger.specs.FaultLines.{too_long, located_at, located_in}
use Rattle.aiger.specs.Lines.{Within, header_read, header_fits, inputs_at, output_at, gates_at}
use Rattle.aiger.specs.Symbols.{slots, refused_at, symbols_at}
use Rattle.aiger.specs.Reads.{Answer, lines_of, into_of, settled, read_of}
use Rattle.aiger.specs.Grammar.{NumberLine, InputLines, GateLines, SymbolLines, Written, gate_table, Exactly}
use Rattle.aiger.proofs.Carried.{keep_ok, told_ok}
use Rattle.aiger.proofs.HeaderTexts.{header_read_lem, header_back, limits_read, limits_back}
use Rattle.aiger.proofs.LiteralTexts.{inputs_read, inputs_back, output_read, output_back}
use Rattle.aiger.proofs.GateTexts.{gates_read, gates_back, table_is}
use Rattle.aiger.proofs.SymbolTexts.{Accepted, Lines, ending_of}
use Rattle.aiger.proofs.SymbolsBack.{symbols_back}
use Rattle.aiger.proofs.SymbolsRead.{symbols_read}
use Rattle.aiger.proofs.Apart.{all_in, apart_free, free_apart}
use Rattle.aiger.proofs.Whole.{till_gates, past_gates, symbols_good}

-- a written circuit is read

into_read : (bs : List ℕ) (n : ℕ) (r : Reading) (gs : List (ℕ × ℕ)) → Written bs n r gs → ◌≡◌ {A = Answer} (into_of bs (replicate n 0)) (gate_table n gs, Ok r)
into_read bs n r gs w =
    let room : 2 * length gs ≤ n = omega (arith, w.count, w.limits.room) in
    let h = w.h in
    let t = replicate n 0 in
    let eh = header_read_lem bs h w.after_header w.header in
    let ei = inputs_read h.inputs 1 eh.0 bs w.after_inputs (subst (λ (l : List ℕ). InputLines 1 h.inputs l w.after_inputs) (sym eh.2) w.inputs) in
    let eo = output_read bs ei.0 r.output h.highest h.inputs w.after_output w.output_below (subst (λ (l : List ℕ). NumberLine (r.output ∷ []) l w.after_output) (sym ei.2) w.output) in
    let eg = gates_read gs h.inputs 0 eo.0 bs t w.after_gates (subst (λ (l : List ℕ). GateLines h.inputs 0 gs l w.after_gates) (sym eo.2) w.gates) in
    let lines : Lines bs Accepted h.inputs (replicate slots false) (drop eg.0 bs) = record {
      symbols = w.symbols;
      here = w.rest;
      lines = subst (λ (l : List ℕ). SymbolLines h.inputs w.symbols l w.rest) (sym eg.2) w.lines;
      free = apart_free h.inputs w.symbols w.limits.inputs (all_in h.inputs w.symbols w.after_gates w.rest w.lines) w.apart;
      last = inl (tt, w.ending);
    } in
    let symbols : symbols_at bs eg.0 h.inputs ≡ Ok tt = ap (result_map_both (λ u. u) (refused_at bs)) (symbols_read bs Accepted (λ f p n z h a. absurd a) eg.0 h.inputs lines) in
    let gates : ◌≡◌ {A = List ℕ × Result ℕ CircuitFault} (gates_at bs h.inputs 0 h.gates eo.0 t) (gate_table n gs, Ok eg.0) =
    ap (λ (k : ℕ). gates_at bs h.inputs 0 k eo.0 t) (sym w.count) ∙ eg.1 ∙ (λ j. (table_is gs n room j, Ok eg.0)) in
    till_gates bs t h eh.0 ei.0 (r.output, eo.0) tt w.few
    (sym (ap (located_in bs) eh.1))
    (sym (ap (header_fits h) (length-replicate n 0) ∙ limits_read h n w.limits))
    (sym ei.1) (sym eo.1)
    ∙ past_gates bs (gate_table n gs) h r.output eg.0 _ (sym gates)
    ∙ symbols_good bs (gate_table n gs) h r.output eg.0 tt (sym symbols)
    ∙ (λ j. (gate_table n gs, Ok (record { inputs = sym w.inputs_is j; gates = sym w.gates_is j; output = r.output })))

-- what is read is a written circuit

long_back : (b : Bool) (t z : List ℕ) (e : CircuitFault) (a : Answer) (r : Reading) → ◌≡◌ {A = Answer} (cond b (t, Err e) a) (z, Ok r) → (b ≡ false) × (◌≡◌ {A = Answer} a (z, Ok r))
long_back true t z e a r h = grind arith
long_back false t z e a r h = (refl, h)

into_back : (bs : List ℕ) (n : ℕ) (r : Reading) (z : List ℕ) → ◌≡◌ {A = Answer} (into_of bs (replicate n 0)) (z, Ok r) → (gs : List (ℕ × ℕ)) × Written bs n r gs × (z ≡ gate_table n gs)
into_back bs n r z e =
    let t = replicate n 0 in
    let few = long_back (ltb max_file_bytes (length bs)) t z too_long (lines_of bs t) r e in
    let a = keep_ok Text t (located_in bs (header_read bs)) _ z r few.1 in
    let h = a.0.0 in
    let b = keep_ok (λ e. e) t (header_fits h (length t)) _ z r a.2 in
    let c = keep_ok (λ e. e) t (inputs_at bs a.0.1 1 h.inputs) _ z r b.2 in
    let d = keep_ok (λ e. e) t (output_at bs c.0 h.highest h.inputs) _ z r c.2 in
    let g = gates_at bs h.inputs 0 h.gates d.0.1 t in
    let f = keep_ok (λ e. e) g.0 g.1 _ z r d.2 in
    let is_z : g.0 ≡ z = ap (λ (x : Answer). x.0) f.2 in
    let s = next_ok (symbols_at bs f.0 h.inputs) _ r (ap (λ (x : Answer). x.1) f.2) in
    let is_r = ok_same (record { inputs = h.inputs; gates = h.gates; output = d.0.0 }) r s.2 in
    let lim : Within h n = limits_back h n b.0 (sym (ap (header_fits h) (length-replicate n 0)) ∙ b.1) in
    let bo = output_back bs c.0 h.highest h.inputs d.0 d.1 in
    let bg = gates_back h.gates h.inputs 0 d.0.1 f.0 bs t g.0 (λ j. (g.0, f.1 j)) in
    let sy = symbols_back bs Accepted f.0 h.inputs (told_ok (refused_at bs) _ s.0 s.1) in
    let gs = bg.0 in
    let room : 2 * length gs ≤ n = omega (arith, bg.1, lim.room) in (
      gs,
      subst (λ (r : Reading). Written bs n r gs) is_r
          (record {
            few = ltb-false _ _ few.0;
            h = h;
            limits = lim;
            inputs_is = refl;
            gates_is = refl;
            output_below = bo.0;
            count = bg.1;
            after_header = drop a.0.1 bs;
            after_inputs = drop c.0 bs;
            after_output = drop d.0.1 bs;
            after_gates = drop f.0 bs;
            rest = sy.here;
            symbols = sy.symbols;
            header = header_back bs a.0 (told_ok (located_at bs) _ _ a.1);
            inputs = inputs_back h.inputs 1 a.0.1 c.0 bs c.1;
            output = bo.1;
            gates = bg.2;
            lines = sy.lines;
            apart = free_apart h.inputs sy.symbols lim.inputs (all_in h.inputs sy.symbols (drop f.0 bs) sy.here sy.lines) sy.free;
            ending = ending_of bs h.inputs (replicate slots false) (drop f.0 bs) sy;
          }),
      sym is_z ∙ bg.3 ∙ table_is gs n room,
    )

-- the whole answer

settled_ok : (n : ℕ) (a : List ℕ) (b : Result Reading CircuitFault) (z : List ℕ) (r : Reading) → ◌≡◌ {A = Answer} (settled n a b) (z, Ok r) → ◌≡◌ {A = Answer} (a, b) (z, Ok r)
settled_ok n a (Ok x) z r e = e
settled_ok n a (Err d) z r e = grind arith

settled_err : (n : ℕ) (a : List ℕ) (b : Result Reading CircuitFault) (z : List ℕ) (d : CircuitFault) → ◌≡◌ {A = Answer} (settled n a b) (z, Err d) → z ≡ replicate n 0
settled_err n a (Ok x) z d e = grind arith
settled_err n a (Err f) z d e = grind arith

pub exact : (bs : List ℕ) (n : ℕ) (z : List ℕ) (r : Result Reading CircuitFault) → ◌≡◌ {A = Answer} (z, r) (read_of bs n) → Exactly bs n z r
exact bs n z r e =
    let i = into_of bs (replicate n 0) in
    record {
      reads = λ x ex. into_back bs n x z (settled_ok n i.0 i.1 z x (sym e ∙ (λ j. (z, ex j))));
      accepts = λ x gs w.
          let all : ◌≡◌ {A = Answer} (z, r) (gate_table n gs, Ok x) = e ∙ ap (λ (a : Answer). settled n a.0 a.1) (into_read bs n x gs w) in
          (ap (λ (a : Answer). a.1) all, ap (λ (a : Answer). a.0) all);
      refuses = λ d ed. settled_err n i.0 i.1 z d (sym e ∙ (λ j. (z, ed j)));
    }

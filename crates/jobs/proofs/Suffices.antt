-- The memory of a program's own suffices. Assumes nothing.
use Rattle.std.proofs.Common.{◌≡◌, ℕ, ◌+◌, ◌*◌, ◌<◌, ◌≤◌, inl, inr, Bool, leb, ltb, List, ◌++◌, length, take, drop, Some, None, Ok, Err, IfErr, Option, Result, refl, sym, ap, ◌∙◌, subst, arith, mul-le-mul, length-take, length-drop}
use Rattle.std.proofs.lemmas.Bool.{cond_both, cond-false, ltb-true, leb-true, le-ltb}
use Rattle.std.proofs.lemmas.Result.{IfErr-at_err}
use Rattle.std.proofs.lemmas.Bool.Decides.{nat_tests}
use Rattle.faults.specs.declared.circuit.CircuitFault.{CircuitFault}
use Rattle.faults.specs.declared.circuit.Rule.TheVariants.{GateCount, GateTable}
use Rattle.faults.specs.declared.job.JobFault.{JobFault}
use Rattle.faults.specs.declared.listing.ListingFault.{ListingFault}
use Rattle.faults.specs.declared.listing.ListingFault.TheVariants.{Mode}
use Rattle.faults.specs.declared.table.TableFault.{TableFault}
use Rattle.faults.specs.declared.table.TableFault.TheVariants.{TextShort}
use Rattle.circuit.specs.declared.reading.Reading.{Reading}
use Rattle.circuit.specs.Circuits.{Netlist, highest, within_limits, taken_up}
use Rattle.circuit.specs.Lanes.{words}
use Rattle.circuit.specs.Limits.{max_inputs, max_gates, max_table_inputs}
use Rattle.circuit.specs.Solutions.{solves}
use Rattle.circuit.proofs.Room.{given}
use Rattle.circuit.proofs.WordRows.{few_words}
use Rattle.aiger.specs.Reads.{read_of}
use Rattle.faults.specs.declared.circuit.CircuitFault.TheVariants.{Broken}
use Rattle.aiger.specs.Told.{Told}
use Rattle.aiger.proofs.MalformedTold.{answer_told}
use Rattle.cubes.specs.declared.entry.Entry.{Entry}
use Rattle.table.specs.Tables.{table_answer}
use Rattle.listing.specs.declared.arity.Arity.{Arity}
use Rattle.listing.specs.declared.mode.Mode.{Mode as ListingMode}
use Rattle.listing.specs.declared.states.Draft.{Draft}
use Rattle.listing.specs.declared.states.Finished.{Finished}
use Rattle.listing.specs.Calls.{mode_of, drafted, opened, begun, entries, cubes_in}
use Rattle.pla.specs.Printed.{carried, printed}
use Rattle.pla.specs.Text.{head, text_of}
use Rattle.pla.proofs.Parts.{length_head_le, text_size}
use Rattle.listing.proofs.Arities.{arity_given}
use Rattle.jobs.specs.Lists.{Outcome, Run, go_on, at_reading, at_deciding, at_listing, run_of, most_nexts, printed_text, run_text, rows_text, making_of, circuit_text}
use Rattle.jobs.specs.Sizes.{enough, entry_count, text_bytes}
use Rattle.jobs.specs.Suffices.{TableShort, Due, Suffices}
use Rattle.jobs.proofs.RunRoom.{Within, run_within}

-- ---- a circuit that is taken up lies within the limits

record Small (c : Netlist) : Type 0 where
  some : 1 ≤ c.inputs
  few : c.inputs ≤ max_inputs
  room : highest c < max_inputs + max_gates + 1

taken_small : (r : Reading) (table : List ℕ) → Small (taken_up r table)
taken_small r table =
    let gates = take (2 * r.gates) table in
    cond_both (within_limits r table) _ _ Small
    (λ within.
    let limits : (1 ≤ r.inputs) × (r.inputs ≤ max_inputs) × (r.gates ≤ max_gates) = grind (arith, nat_tests) in
    record { some = limits.0; few = limits.1; room = omega (arith, limits.1, limits.2, length-take (2 * r.gates) table) })
    (λ _. record { some = omega arith; few = omega arith; room = omega arith })

-- ---- a file that breaks the rule of the gate table has kept the one of the most gates

read_roomy : (bs : List ℕ) (n : ℕ) → 2 * max_gates ≤ n → IfErr (read_of bs n).1 (λ e. TableShort e → ⊥)
read_roomy bs n room = by (read_of bs n).1 (answer_told bs n _ _ refl)
  where
    by : (r : Result Reading CircuitFault) → Told bs n r → IfErr r (λ e. TableShort e → ⊥)
    by (Ok reading) told = tt
    by (Err e) told = λ short.
        let broken = told.says (Broken GateTable short.0) (ap Err short.1) in
        broken.breaks (omega (arith, room, broken.others GateCount (omega arith)))

-- ---- a decider is made

table_given : (c : Netlist) → Small c → c.inputs ≤ max_table_inputs → table_answer c enough.bits enough.words ≡ Ok tt
table_given c small few =
    cond-false (ltb max_table_inputs c.inputs) _ _ (le-ltb _ _ few)
    ∙ cond-false (ltb enough.bits (words c.inputs)) _ _ (le-ltb _ _ (few_words c.inputs few)) ∙ sym (given c enough.words tt small.room)

making_given : (c : Netlist) → Small c → making_of enough c ≡ Ok tt
making_given c small =
    cond_both (leb c.inputs max_table_inputs) (table_answer c enough.bits enough.words) _ (λ a. a ≡ Ok tt)
    (λ few. table_given c small (leb-true _ _ few)) (λ _. sym (given c enough.signals tt small.room))

-- ---- the text has room

text_fits : (n : ℕ) (cubes : List Entry) → n ≤ max_inputs → length cubes ≤ entry_count → length (text_of n cubes) ≤ text_bytes
text_fits n cubes small few =
    let wide : n + 3 ≤ 33 = omega (arith, small) in
    let lines : length cubes * (n + 3) ≤ entry_count * 33 = mul-le-mul few wide in
    omega (arith, lines, length_head_le n (length cubes) (omega (arith, small)) (omega (arith, few)), text_size n cubes (head n (length cubes)) refl)

-- ---- with a circuit's number of inputs a draft is refused only for its mode

abbrev Opens : ℕ → Result Draft ListingFault → Type 0
Opens n (Ok d) = (d.waivers ≡ 0) × (n ≡ d.arity.inputs)
Opens n (Err e) = e ≡ Mode

drafted_opens : (mode : Option ListingMode) (arity : Arity) → Opens arity.inputs (drafted mode (Some arity))
drafted_opens None arity = refl
drafted_opens (Some m) arity = (refl, refl)

opens : (mode n : ℕ) → 1 ≤ n → n ≤ max_inputs → Opens n (opened mode n)
opens mode n low high = subst (λ (a : Option Arity). Opens n (drafted (mode_of mode) a)) (sym (arity_given n (low, high))) (drafted_opens (mode_of mode) _)

-- ---- a job is refused only where that is due

abbrev OnlyDue : Outcome → Type 0
OnlyDue o = IfErr o.0 (λ refusal. Due refusal.fault)

go_on_due : {A E : Type 0} (fault : E → JobFault) (text : List ℕ) (r : Result A E) (more : A → Outcome)
    → ((e : E) → r ≡ Err e → Due (fault e).fault) → ((a : A) → r ≡ Ok a → OnlyDue (more a)) → OnlyDue (go_on fault text r more)
go_on_due fault text (Ok a) more first rest = rest a refl
go_on_due fault text (Err e) more first rest = first e refl

module _ (text : List ℕ) (long : text_bytes ≤ length text) where
  print_due : (f : Finished) (register : List Entry) → length register ≡ entry_count → entries f.listing ≤ entry_count → OnlyDue (printed_text (printed f register text))
  print_due f register whole used =
      let d = f.listing.draft in
      let cubes : List Entry = cubes_in f.listing register in
      let count : length cubes ≤ entry_count = omega (arith, length-take f.listing.cubes (drop d.waivers register), length-drop d.waivers register, whole) in
      let size : ℕ = length (text_of d.arity.inputs cubes) in
      let fits : size ≤ text_bytes = text_fits d.arity.inputs cubes d.arity.limits.1 count in
      let Wrote : Result ℕ TableFault × List ℕ → Type 0 = λ w. OnlyDue (printed_text (carried w.0, w.1)) in
      cond_both (ltb (length register) (entries f.listing)) _ _ (λ p. OnlyDue (printed_text p))
      (λ short. absurd (omega (arith, ltb-true (length register) (entries f.listing) short, whole, used)))
      (λ _. cond_both (ltb (length text) size) (Err (TextShort size), text) (Ok size, text_of d.arity.inputs cubes ++ drop size text) Wrote
      (λ short. absurd (omega (arith, ltb-true (length text) size short, fits, long))) (λ _. tt))

  run_due : (run : Run) → Within entry_count run → OnlyDue (run_text text run)
  run_due (Ok f, register) within = print_due f register within.0 within.1
  run_due (Err fault, register) full = inr full

  module _ (mode : ℕ) (register : List Entry) (whole : length register ≡ entry_count) where
    rows_due : (n : ℕ) (S : ℕ → Bool) → 1 ≤ n → n ≤ max_inputs → OnlyDue (rows_text mode n S register text)
    rows_due n S low high =
        let opens_well = opens mode n low high in
        go_on_due at_listing text (opened mode n) _ (λ e is. inl (subst (Opens n) is opens_well))
        (λ d is.
        let draft : Opens n (Ok d) = subst (Opens n) is opens_well in
        run_due (run_of most_nexts n S (begun d) register)
        (run_within n entry_count S (omega arith) most_nexts (begun d) register whole (omega (arith, draft.0)) (omega (arith, draft.0)) draft.1))

    circuit_due : (c : Netlist) → Small c → OnlyDue (circuit_text enough mode c register text)
    circuit_due c small =
        let made = making_given c small in
        go_on_due at_deciding text (making_of enough c) _ (λ e is. absurd (cc (sym made ∙ is))) (λ _ _. rows_due c.inputs (solves c) small.some small.few)

-- ---- and all together

pub suffices : Suffices
suffices =
    let reads : (file : List ℕ) → IfErr (read_of file enough.gate_table).1 (λ e. TableShort e → ⊥) = λ file. read_roomy file enough.gate_table (omega arith) in
    record {
      reads = reads;
      decides = λ r table. making_given (taken_up r table) (taken_small r table);
      prints = text_fits;
      works = λ file mode register text whole long.
          let read = read_of file enough.gate_table in
          go_on_due at_reading text read.1 _ (λ e refused. IfErr-at_err (λ e. TableShort e → ⊥) refused (reads file))
          (λ r _. circuit_due text long mode register whole (taken_up r read.0) (taken_small r read.0));
    }

-- A job that gives a text has told the list of the file's circuit. Assumes nothing.
use Rattle.std.proofs.Common.{◌≡◌, ℕ, ◌^◌, ◌<◌, ◌≤◌, Bool, true, not, List, [], map, length, take, drop, IfOk, Some, None, Ok, Err, Option, Result, sym, refl, ap, ◌∙◌, subst, ap₂, zero-add}
use Rattle.std.proofs.lemmas.Bool.{and_parts, and_from}
use Rattle.faults.specs.declared.job.Fault.{Fault}
use Rattle.faults.specs.declared.job.JobFault.{JobFault}
use Rattle.faults.specs.declared.listing.ListingFault.{ListingFault}
use Rattle.circuit.specs.declared.reading.Reading.{Reading}
use Rattle.circuit.specs.Circuits.{Netlist, taken_up}
use Rattle.circuit.specs.Solutions.{solves}
use Rattle.aiger.specs.Reads.{Answer, read_of}
use Rattle.aiger.proofs.Exact.{exact}
use Rattle.cubes.specs.declared.cube.Cube.{Cube}
use Rattle.cubes.specs.declared.entry.Entry.{Entry}
use Rattle.listing.specs.declared.arity.Arity.{Arity}
use Rattle.listing.specs.declared.mode.Mode.{Mode}
use Rattle.listing.specs.declared.mode.Mode.TheVariants.{Separate}
use Rattle.listing.specs.declared.states.Draft.{Draft}
use Rattle.listing.specs.declared.states.Finished.{Finished}
use Rattle.listing.specs.Calls.{mode_of, arity_of, drafted, opened, begun, cubes_in, listed_of}
use Rattle.listing.specs.Stories.{Story, finished, opens, begins}
use Rattle.listing.specs.Theorem.{in_some, Holds}
use Rattle.listing.proofs.Counts.{bool_same}
use Rattle.listing.proofs.Goodness.{holds_parts}
use Rattle.listing.proofs.Lists.{some_at, some_by}
use Rattle.listing.proofs.Main.{stories_hold}
use Rattle.pla.specs.Printed.{printed}
use Rattle.pla.specs.Text.{text_of}
use Rattle.jobs.specs.Lists.{Outcome, Run, Room, go_on, at_reading, at_deciding, at_listing, at_printing, run_of, most_nexts, rows_text, making_of, list_of}
use Rattle.jobs.specs.Told.{Tells, TellsCircuit, Told}
use Rattle.jobs.proofs.RunStories.{Ran, run_told}
use Rattle.jobs.proofs.Prints.{Begins, printed_begins}
use Rattle.jobs.proofs.Circuits.{taken_as_written}

-- ---- where the job gives a text, each stage went well

go_on_lem : {A E : Type 0} (fault : E → JobFault) (text : List ℕ) (r : Result A E) (more : A → Outcome) (size : ℕ) (after : List ℕ)
    → go_on fault text r more ≡ (Ok size, after) → (a : A) × (r ≡ Ok a) × (more a ≡ (Ok size, after))
go_on_lem fault text (Ok a) more size after e = (a, refl, e)
go_on_lem fault text (Err x) more size after e = absurd (cc (ap (λ (o : Outcome). o.0) e))

drafted_mode : (mode : Option Mode) (arity : Option Arity) (d : Draft) → drafted mode arity ≡ Ok d → mode ≡ Some d.mode
drafted_mode None arity d e = absurd (cc)
drafted_mode (Some m) None d e = absurd (cc)
drafted_mode (Some m) (Some a) d e =
    let same : ◌≡◌ {A = Draft} (record { arity = a; mode = m; waivers = 0 }) d = cc in ap (λ (x : Draft). Some x.mode) same

-- ---- what the finished story says of the rows

module _ (N : ℕ) (S : ℕ → Bool) (f : Finished) (register : List Entry) (cubes : List Cube) (s : Story N S (finished f) register [] cubes) where
  abbrev n : ℕ
  n = f.listing.draft.arity.inputs

  listed_solution : (i row : ℕ) → Holds n cubes i row → S row ≡ true
  listed_solution i row h = (and_parts (S row) (not (in_some [] row)) (stories_hold.only N S (finished f) register [] cubes s i row h)).0

  rows_exact : (row : ℕ) → row < 2 ^ n → in_some cubes row ≡ S row
  rows_exact row low =
      bool_same (in_some cubes row) (S row) (λ e. let at = some_at n cubes row low e in listed_solution at.0 row at.1)
      (λ e. let at = stories_hold.cover N S f register [] cubes s row low (and_from (S row) (not (in_some [] row)) e refl) in some_by n cubes at.0 row at.1)

  rows_apart : f.listing.draft.mode ≡ Separate → (i j row : ℕ) → Holds n cubes i row → Holds n cubes j row → i ≡ j
  rows_apart separate i j row h k =
      let low = (holds_parts n _ _ row h.1).0 in
      let at = stories_hold.cover N S f register [] cubes s row low (and_from (S row) (not (in_some [] row)) (listed_solution i row h) refl) in
      at.2 separate i h ∙ sym (at.2 separate j k)

  list_in : cubes_in f.listing register ≡ map listed_of cubes
  list_in =
      let r = stories_hold.registered N S (finished f) register [] cubes s in
      ap₂ (λ (count first : ℕ). take count (drop first register)) r.cubes r.waivers ∙ ap (λ (k : ℕ). take k register) (sym (zero-add (length cubes))) ∙ r.entries

-- mode 1 is of separate cubes
separate_mode : (mode : ℕ) (m : Mode) → mode_of mode ≡ Some m → mode ≡ 1 → m ≡ Separate
separate_mode mode m e one = let same : Some m ≡ Some Separate = sym e ∙ ap mode_of one in cc

-- ---- the stages

module _ (n : ℕ) (S : ℕ → Bool) (mode size : ℕ) (register : List Entry) (text after : List ℕ) where
  told_rows : rows_text mode n S register text ≡ (Ok size, after) → (size ≤ length after) × Tells n S mode (take size after)
  told_rows e =
      let opens_well = go_on_lem at_listing text (opened mode n) _ size after e in
      let d : Draft = opens_well.0 in
      let run : Run = run_of most_nexts n S (begun d) register in
      let runs_well = go_on_lem at_listing text run.0 _ size after opens_well.2 in
      let f : Finished = runs_well.0 in
      let p : Result ℕ Fault × List ℕ = printed f run.1 text in
      let prints_well = go_on_lem at_printing p.1 p.0 (λ s. (Ok s, p.1)) size after runs_well.2 in
      let wrote : Begins f run.1 text size after =
      subst (Begins f run.1 text size) (ap (λ (o : Outcome). o.1) prints_well.2)
      (printed_begins f run.1 text size (prints_well.1 ∙ cc (ap (λ (o : Outcome). o.0) prints_well.2))) in
      let ran : Ran n S d f run.1 =
      run_told n S f run.1 most_nexts (begun d) register [] (begins (opens mode n d register opens_well.1)) (ap (λ (r : Result Finished ListingFault). (r, run.1)) runs_well.1) in
      let mode_is : mode_of mode ≡ Some f.listing.draft.mode = drafted_mode (mode_of mode) (arity_of n) d opens_well.1 ∙ ap (λ (x : Draft). Some x.mode) (sym ran.draft_is) in
      let inputs = sym ran.inputs_are in (
        wrote.fits,
        record {
          end = f;
          register = run.1;
          cubes = ran.cubes;
          story = ran.story;
          mode_is = mode_is;
          inputs_are = inputs;
          written = wrote.text ∙ ap₂ text_of inputs (list_in n S f run.1 ran.cubes ran.story);
          exact = subst (λ (k : ℕ). (row : ℕ) → row < 2 ^ k → in_some ran.cubes row ≡ S row) inputs (rows_exact n S f run.1 ran.cubes ran.story);
          apart = λ one.
              subst (λ (k : ℕ). (i j row : ℕ) → Holds k ran.cubes i row → Holds k ran.cubes j row → i ≡ j) inputs
              (rows_apart n S f run.1 ran.cubes ran.story (separate_mode mode f.listing.draft.mode mode_is one));
        },
      )

module _ (file : List ℕ) (mode : ℕ) (room : Room) (register : List Entry) (text : List ℕ) where
  told_file : (size : ℕ) (after : List ℕ) → list_of file mode room register text ≡ (Ok size, after) → (size ≤ length after) × Told file room.gate_table mode (take size after)
  told_file size after e =
      let a : Answer = read_of file room.gate_table in
      let reads = go_on_lem at_reading text a.1 _ size after e in
      let r : Reading = reads.0 in
      let c : Netlist = taken_up r a.0 in
      let decides = go_on_lem at_deciding text (making_of room c) _ size after reads.2 in
      let w = (exact file room.gate_table a.0 a.1 refl).reads r reads.1 in
      let same = ap (taken_up r) w.2 ∙ taken_as_written file room.gate_table r w.0 w.1 in
      let tells = told_rows c.inputs (solves c) mode size register text after decides.2 in
      (tells.0, record { reading = r; gates = w.0; circuit = w.1; list = subst (λ (x : Netlist). TellsCircuit x mode (take size after)) same tells.1 })

  pub fits : (o : Outcome) → o ≡ list_of file mode room register text → IfOk o.0 (λ size. size ≤ length o.1)
  fits (Ok size, after) e = (told_file size after (sym e)).0
  fits (Err fault, after) e = tt

  pub told : (o : Outcome) → o ≡ list_of file mode room register text → IfOk o.0 (λ size. Told file room.gate_table mode (take size o.1))
  told (Ok size, after) e = (told_file size after (sym e)).1
  told (Err fault, after) e = tt

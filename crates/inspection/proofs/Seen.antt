-- An accepted look has told of the file's circuit. Assumes nothing.
use Rattle.std.proofs.Common.{◌≡◌, ℕ, ◌^◌, Bool, true, false, cond, leb, ltb, List, Some, None, Ok, Err, Option, Result, sym, refl, ap, ◌∙◌, subst, ap₂, arith}
use Rattle.faults.specs.declared.table.TableFault.{TableFault}
use Rattle.circuit.specs.declared.reading.Reading.{Reading}
use Rattle.circuit.specs.Circuits.{Netlist, highest, taken_up}
use Rattle.circuit.specs.Counts.{counted}
use Rattle.circuit.specs.Limits.{max_table_inputs}
use Rattle.circuit.specs.Solutions.{solves, solution_count}
use Rattle.aiger.specs.Grammar.{Written}
use Rattle.aiger.specs.Reads.{Answer, read_of}
use Rattle.text.proofs.Answers.{ok_same, after_test, in_test}
use Rattle.aiger.proofs.Carried.{up_ok}
use Rattle.aiger.proofs.Exact.{exact}
use Rattle.listing.specs.Widest.{lead}
use Rattle.listing.proofs.Least.{Found, found}
use Rattle.table.specs.Tables.{table_answer}
use Rattle.search.specs.Searches.{made_of}
use Rattle.jobs.specs.Lists.{Room, at_reading, at_deciding}
use Rattle.inspection.specs.declared.summary.Summary.{Summary}
use Rattle.inspection.specs.Inspections.{smallest_by, summary_of, counted_summary, searched_summary, circuit_summary, inspected}
use Rattle.jobs.specs.Told.{circuit_of}
use Rattle.inspection.specs.Seen.{Smallest, Seen}
use Rattle.jobs.proofs.Circuits.{words_length, taken_as_written}

smallest_is : (c : Netlist) (o : Option ℕ) → Found (solves c) (2 ^ c.inputs) o → Smallest c o
smallest_is c (Some row) f = (f.below, f.passes, f.first)
smallest_is c None f = f

-- ---- what an accepted summary is

module _ (c : Netlist) where
  abbrev told : Option ℕ → Summary
  told count = summary_of c count (lead c.inputs (solves c))

  found_by : (answer : Result (Unit {0}) TableFault) (o : Option ℕ) → smallest_by answer c ≡ Ok o → o ≡ lead c.inputs (solves c)
  found_by (Ok u) o e = cc
  found_by (Err f) o e = cc

  count_is : (words n : ℕ) → counted c words ≡ Ok n → n ≡ solution_count c
  count_is words n e =
      let few = after_test (ltb max_table_inputs c.inputs) _ n _ e in
      let roomy = in_test (ltb (highest c) words) _ n _ few.1 in
      sym (ok_same (solution_count c) n roomy.1)

  counted_told : (bits words : ℕ) (s : Summary) → counted_summary c bits words ≡ Ok s → s ≡ told (Some (solution_count c))
  counted_told bits words s e =
      let finds = up_ok (λ f. f) (smallest_by (table_answer c bits words) c) _ s e in
      let counts = up_ok (λ f. f) (counted c words) _ s finds.2 in
      sym (ok_same _ s counts.2)
      ∙ ap₂ (λ (n : ℕ) (o : Option ℕ). summary_of c (Some n) o) (count_is words counts.0 counts.1) (found_by (table_answer c bits words) finds.0 finds.1)

  searched_told : (signals : ℕ) (s : Summary) → searched_summary c signals ≡ Ok s → s ≡ told None
  searched_told signals s e =
      let finds = up_ok (λ f. f) (smallest_by (made_of c signals) c) _ s e in
      sym (ok_same _ s finds.2) ∙ ap (λ (o : Option ℕ). summary_of c None o) (found_by (made_of c signals) finds.0 finds.1)

  circuit_told : (few : Bool) (bits words signals : ℕ) (s : Summary) → cond few (counted_summary c bits words) (searched_summary c signals) ≡ Ok s
      → s ≡ told (cond few (Some (solution_count c)) None)
  circuit_told true bits words signals s e = counted_told bits words s e
  circuit_told false bits words signals s e = searched_told signals s e

-- ---- of a written circuit, which is what is read

module _ (file : List ℕ) (words : ℕ) (r : Reading) (gates : List (ℕ × ℕ)) (w : Written file words r gates) where
  abbrev c : Netlist
  c = circuit_of r gates

  seen_written : (s : Summary) → s ≡ told c (cond (leb c.inputs max_table_inputs) (Some (solution_count c)) None) → Seen file words s
  seen_written s e =
      let same : s.smallest ≡ lead c.inputs (solves c) = ap (λ (t : Summary). t.smallest) e in
      record {
        reading = r;
        gates = gates;
        circuit = w;
        inputs = ap (λ (t : Summary). t.inputs) e;
        gate_count = omega (arith, words_length gates, ap (λ (t : Summary). t.gates) e);
        output = ap (λ (t : Summary). t.output) e;
        solutions = ap (λ (t : Summary). t.solutions) e;
        smallest = smallest_is c s.smallest (subst (Found (solves c) (2 ^ c.inputs)) (sym same) (found (solves c) (2 ^ c.inputs)));
      }

module _ (file : List ℕ) (room : Room) where
  abbrev looked : Netlist → Result Summary TableFault
  looked c = circuit_summary c room.bits room.words room.signals

  pub seen : (s : Summary) → Ok s ≡ inspected file room → Seen file room.gate_table s
  seen s e =
      let a : Answer = read_of file room.gate_table in
      let reads = up_ok at_reading a.1 _ s (sym e) in
      let r : Reading = reads.0 in
      let looks = up_ok at_deciding (looked (taken_up r a.0)) _ s reads.2 in
      let w = (exact file room.gate_table a.0 a.1 refl).reads r reads.1 in
      let c : Netlist = circuit_of r w.0 in
      let same : taken_up r a.0 ≡ c = ap (taken_up r) w.2 ∙ taken_as_written file room.gate_table r w.0 w.1 in
      let answer : looked c ≡ Ok s = ap looked (sym same) ∙ looks.1 ∙ ap Ok (ok_same looks.0 s looks.2) in
      seen_written file room.gate_table r w.0 w.1 s (circuit_told c (leb c.inputs max_table_inputs) room.bits room.words room.signals s answer)

-- What a successful print has written. Assumes nothing.
use Rattle.std.proofs.Common.{◌≡◌, ℕ, ◌≤◌, ltb, List, ◌++◌, length, take, drop, Ok, Err, Result, sym, ap, ◌∙◌, arith, length-append}
use lib.Seq.{take-append_seam}
use Rattle.std.proofs.lemmas.Bool.{cond_both}
use Rattle.faults.specs.declared.job.Fault.{Fault}
use Rattle.faults.specs.declared.table.TableFault.{TableFault}
use Rattle.faults.specs.declared.table.TableFault.TheVariants.{TextShort}
use Rattle.cubes.specs.declared.entry.Entry.{Entry}
use Rattle.listing.specs.declared.states.Finished.{Finished}
use Rattle.listing.specs.Calls.{entries, cubes_in}
use Rattle.pla.specs.Printed.{carried, printed}
use Rattle.pla.specs.Text.{text_of}

module _ (f : Finished) (register : List Entry) (memory : List ℕ) where
  abbrev pub the_text : List ℕ
  the_text = text_of f.listing.draft.arity.inputs (cubes_in f.listing register)

  -- the memory after begins with the text
  pub record Begins (size : ℕ) (after : List ℕ) : Type 0 where
    pub fits : size ≤ length after
    pub text : take size after ≡ the_text

  abbrev Wrote : ℕ → Result ℕ Fault × List ℕ → Type 0
  Wrote size p = p.0 ≡ Ok size → Begins size p.1

  begins : (size : ℕ) → length the_text ≡ size → Begins size (the_text ++ drop (length the_text) memory)
  begins size e =
      let rest : List ℕ = drop (length the_text) memory in
      let whole = length-append the_text rest in
      record { fits = omega arith; text = ap (λ (k : ℕ). take k (the_text ++ rest)) (sym e) ∙ take-append_seam the_text rest }

  pub printed_begins : (size : ℕ) → Wrote size (printed f register memory)
  printed_begins size =
      let wrote : Result ℕ TableFault × List ℕ → Type 0 = λ w. Wrote size (carried w.0, w.1) in
      cond_both (ltb (length register) (entries f.listing)) _ _ (Wrote size) (λ _ e. absurd (cc))
      (λ _. cond_both (ltb (length memory) (length the_text)) (Err (TextShort (length the_text)), memory) (Ok (length the_text), the_text ++ drop (length the_text) memory) wrote
      (λ _ e. absurd (cc)) (λ _ e. let same : length the_text ≡ size = cc in begins size same))

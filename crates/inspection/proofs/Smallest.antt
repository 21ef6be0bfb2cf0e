-- The smallest row of a decider is the smallest solution of its circuit. Assumes nothing.
use Rattle.std.proofs.Common.{◌≡◌, ℕ, ◌≤◌, Bool, cond, ◌&&◌, leb, [], is_ok, None, Ok, Option, Result, ap, ◌∙◌}
use Rattle.std.proofs.Math.Bool.{and-true}
use Rattle.std.proofs.lemmas.Bool.{cond-true, le-leb}
use Rattle.faults.specs.declared.table.TableFault.{TableFault}
use Rattle.circuit.specs.Circuits.{Netlist}
use Rattle.circuit.specs.Solutions.{solves}
use Rattle.cubes.specs.Cubes.{held}
use Rattle.listing.specs.Limits.{max_inputs}
use Rattle.listing.specs.Widest.{without, lead}
use Rattle.jobs.proofs.Stages.{decided}
use Rattle.inspection.specs.Inspections.{smallest_by}

-- no entry is barred
pub nothing_barred : (n : ℕ) (set : ℕ → Bool) → lead n (without set (held [])) ≡ lead n set
nothing_barred n set = ap (lead n) (λ i row. and-true (set row) i)

-- by a decider that has the circuit's inputs and solutions where its making went well
pub smallest_by_lem : (answer made : Result (Unit {0}) TableFault) (c : Netlist) (n : ℕ) (rows : ℕ → Bool) (o : Option ℕ) → c.inputs ≤ max_inputs
    → answer ≡ made → answer ≡ Ok tt → n ≡ cond (is_ok answer) c.inputs 0 → rows ≡ (λ row. is_ok answer && solves c row)
    → o ≡ cond (leb n max_inputs) (lead n rows) None → Ok o ≡ smallest_by made c
smallest_by_lem answer made c n rows o few same went inputs sets e =
    let found : o ≡ lead c.inputs (solves c) =
    e ∙ decided (λ k S. cond (leb k max_inputs) (lead k S) None) answer c n rows went inputs sets ∙ cond-true (leb c.inputs max_inputs) _ _ (le-leb c.inputs max_inputs few) in
    rw (found, ← same, went)

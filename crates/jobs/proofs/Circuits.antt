-- The circuit of a written file is taken up as it is. Assumes nothing.
use Rattle.std.proofs.Common.{◌≡◌, ℕ, ◌+◌, ◌-◌, ◌*◌, ◌<◌, ◌≤◌, min, max, true, List, [], ◌∷◌, ◌++◌, length, take, replicate, refl, ap, ◌∙◌, ap₂, arith, length-append}
use native.Mathlib.Nat.{max-le, min-le_left}
use lib.Seq.{take-append_seam}
use Rattle.std.proofs.lemmas.Bool.{cond-true, and_from, le-leb}
use Rattle.std.proofs.lemmas.Bool.Decides.{nat_tests}
use Rattle.circuit.specs.declared.reading.Reading.{Reading}
use Rattle.circuit.specs.Circuits.{Netlist, ordered, within_limits, taken_up}
use Rattle.aiger.specs.Grammar.{GateLines, Written, gate_words, gate_table}

pub words_length : (gs : List (ℕ × ℕ)) → length (gate_words gs) ≡ 2 * length gs
words_length [] = refl
words_length (g ∷ gs) = let rest = words_length gs in omega arith

-- each operand is below its gate's own literal
words_ordered : (i k j : ℕ) (gs : List (ℕ × ℕ)) (ts rest : List ℕ) → j ≡ 2 * k → GateLines i k gs ts rest → ordered i j (gate_words gs) ≡ true
words_ordered i k j [] ts rest e lines = refl
words_ordered i k j (g ∷ gs) ts rest e lines =
    let first : g.0 < 2 * (i + 1 + k) = lines.1.0 in
    let second : g.1 < 2 * (i + 1 + k) = lines.1.1 in
    let most : max g.0 g.1 ≤ 2 * (i + 1 + k) - 1 = max-le (omega arith) (omega arith) in
    let least : min g.0 g.1 ≤ g.0 = min-le_left g.0 g.1 in
    let rest_ordered = words_ordered i (k + 1) (j + 1 + 1) gs lines.0 rest (omega arith) lines.2 in
    grind (arith, nat_tests, and_from)

module _ (file : List ℕ) (words : ℕ) (r : Reading) (gs : List (ℕ × ℕ)) (w : Written file words r gs) where
  abbrev table : List ℕ
  table = gate_table words gs

  gates_are : take (2 * r.gates) table ≡ gate_words gs
  gates_are =
      let rest : List ℕ = replicate (words - 2 * length gs) 0 in
      let all : 2 * r.gates ≡ length (gate_words gs) = omega (arith, words_length gs, w.gates_is, w.count) in
      ap (λ (k : ℕ). take k (gate_words gs ++ rest)) all ∙ take-append_seam (gate_words gs) rest

  table_holds : 2 * r.gates ≤ length table
  table_holds = omega (arith, words_length gs, w.gates_is, w.count, length-append (gate_words gs) (replicate (words - 2 * length gs) 0))

  gates_ordered : ordered r.inputs 0 (take (2 * r.gates) table) ≡ true
  gates_ordered =
      ap₂ (λ (i : ℕ) (ws : List ℕ). ordered i 0 ws) w.inputs_is gates_are
      ∙ words_ordered w.h.inputs 0 0 gs w.after_output w.after_gates refl w.gates

  within : within_limits r table ≡ true
  within =
      let limits = w.limits in
      let inputs = w.inputs_is in
      let gates = w.gates_is in
      let below = w.output_below in
      let holds = table_holds in
      let order = gates_ordered in
      grind (arith, nat_tests, and_from, le-leb)

  abbrev with_gates : List ℕ → Netlist
  with_gates ws = record { inputs = r.inputs; output = r.output; gates = ws }

  pub taken_as_written : taken_up r table ≡ record { inputs = r.inputs; output = r.output; gates = gate_words gs }
  taken_as_written = cond-true (within_limits r table) _ _ within ∙ ap with_gates gates_are

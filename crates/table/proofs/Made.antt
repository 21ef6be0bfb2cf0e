-- The made table, word by word, and what it means.
use Rattle.std.proofs.Common.{◌≡◌, ℕ, ◌+◌, ◌*◌, ◌/◌, ◌%◌, ◌^◌, ◌<◌, Bool, ◌&&◌, ltb, List, map, drop, set, ap, ◌∙◌, ap₂, mod-lt, arith, pow_pos, lt-ltb}
use lib.Bits.{bit_and, and_le_l}
use mathlib.Core.Bool.{and-true}
use Rattle.std.specs.List.{range_with_len}
use Rattle.std.proofs.lemmas.List.{get_or_append_left}
use Rattle.std.proofs.lemmas.List.FromFn.{length-map-range_with_len, get_or-map-range_with_len}
use Rattle.circuit.specs.Circuits.{Netlist}
use Rattle.circuit.specs.Kinds.{bit_at}
use Rattle.circuit.specs.Lanes.{Lanes, words}
use Rattle.circuit.specs.Solutions.{solves}
use Rattle.circuit.proofs.Packed.{lane_of, word_is}
use Rattle.circuit.proofs.Rows.{solves_low}
use Rattle.circuit.proofs.WordRows.{rows_in_words, used_row}
use Rattle.circuit.specs.Words.{and_bit}
use Rattle.table.specs.Tables.{word_of, filled, table_rows, rows_of}

-- ---- one word

pub word_made : (n w word used : ℕ) (set : ℕ → Bool) → word < 2 ^ 32 → w < words n → Lanes word (λ b. set (32 * w + b)) → Lanes used (λ b. ltb b (2 ^ n))
    → bit_and word used ≡ word_of n set w
word_made n w word used set small h lanes rows =
    word_is (bit_and word used) _ (omega (arith, and_le_l word used))
    (λ b l. and_bit word used b ∙ ap₂ ◌&&◌ (lanes b l) (rows b l ∙ used_row n w b h l))

-- ---- what the table means

filled_rows : (n : ℕ) (set : ℕ → Bool) (ws : List ℕ) (row : ℕ) → row < 2 ^ n → table_rows (filled n set ws) row ≡ set row
filled_rows n set ws row h =
    let all = rows_in_words n in
    let w = row / 32 in
    let b = row % 32 in
    let lw : w < words n = omega arith in
    let back : 32 * w + b ≡ row = omega arith in
    let long = length-map-range_with_len (word_of n set) 0 (words n) in
    let word = get_or_append_left (map (word_of n set) (range_with_len 0 (words n))) (drop (words n) ws) 0 w (omega arith)
    ∙ get_or-map-range_with_len (word_of n set) 0 (words n) w w 0 lw (omega arith) in
    ap (λ x. bit_at x b) word ∙ lane_of 32 b (λ b. set (32 * w + b) && ltb (32 * w + b) (2 ^ n)) (omega arith)
    ∙ rw (back, lt-ltb row (2 ^ n) h) (and-true (set row))

-- its rows are the circuit's solutions
pub made_rows : (c : Netlist) (ws now : List ℕ) → 0 < c.inputs → now ≡ filled c.inputs (solves c) ws → rows_of c.inputs now ≡ solves c
made_rows c ws now p is = ap (rows_of c.inputs) is ∙ (λ i row. at row i)
  where
    at : (row : ℕ) → rows_of c.inputs (filled c.inputs (solves c) ws) row ≡ solves c row
    at row =
        ap (λ t. t && table_rows (filled c.inputs (solves c) ws) (row % 2 ^ c.inputs)) (lt-ltb 0 c.inputs p)
        ∙ filled_rows c.inputs (solves c) ws (row % 2 ^ c.inputs) (mod-lt row (pow_pos c.inputs)) ∙ solves_low c row

-- The text of a row: its bits, input 1 (the highest) first. Assumes nothing.
use Rattle.std.specs.Prelude.{ℕ, zero, suc, ◌/◌, ◌%◌, ◌^◌, cond, List, [], ◌∷◌, ◌==◌}

abbrev pub bit_text : ℕ → ℕ → ℕ
bit_text row place = cond (row / 2 ^ place % 2 == 1) 49 48

abbrev pub row_text : ℕ → ℕ → List ℕ
row_text zero row = []
row_text (suc place) row = bit_text row place ∷ row_text place row

-- A row's text goes on bit by bit. Assumes nothing.
use Rattle.std.proofs.Common.{◌≡◌, ℕ, suc, List, [], ◌∷◌, ◌++◌, sym, append_assoc}
use Rattle.inspection.specs.Rows.{bit_text, row_text}

pub row_more : (bs : List ℕ) (k row : ℕ) → bs ++ row_text (suc k) row ≡ (bs ++ bit_text row k ∷ []) ++ row_text k row
row_more bs k row = sym (append_assoc bs (bit_text row k ∷ []) (row_text k row))

-- Bytes stored in lent memory.
--   stored   the memory after bytes were stored one after another from a place on
-- Assumes nothing.
use Rattle.std.specs.Prelude.{ℕ, suc, List, [], ◌∷◌, slice_set}

abbrev pub stored : List ℕ → ℕ → List ℕ → List ℕ
stored memory place [] = memory
stored memory place (byte ∷ bytes) = stored (slice_set memory place byte) (suc place) bytes

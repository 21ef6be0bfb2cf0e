-- The line of a place of a file. Assumes nothing.
--
--   newlines       how many bytes of a list are newlines, byte 10
--   line_of bs p   1 and the newlines before place p
use Rattle.std.specs.Prelude.{ℕ, ◌+◌, List, take, count_by, ◌==◌}

abbrev pub newlines : List ℕ → ℕ
newlines bs = count_by (λ b. b == 10) bs

abbrev pub line_of : List ℕ → ℕ → ℕ
line_of bs p = 1 + newlines (take p bs)

-- The limits of a listing. Assumes nothing.
use Rattle.std.specs.Prelude.{ℕ}
pub use Rattle.cubes.specs.Limits.{max_inputs}

-- the most entries that a listing uses
abbrev pub max_entries : ℕ
max_entries = 4096

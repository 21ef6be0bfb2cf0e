-- The most inputs and gates that a circuit may have. Assumes nothing.
use Rattle.std.specs.Prelude.{ℕ}
pub use Rattle.cubes.specs.Limits.{max_inputs}

abbrev pub max_gates : ℕ
max_gates = 4096

-- the most inputs of a circuit whose rows are all gone through, as in a table
abbrev pub max_table_inputs : ℕ
max_table_inputs = 16

-- The most inputs that a cube can fix. Assumes nothing.
use Rattle.std.specs.Prelude.{ℕ}

abbrev pub max_inputs : ℕ
max_inputs = 30

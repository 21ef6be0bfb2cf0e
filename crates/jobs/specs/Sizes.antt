-- How much a job needs.
--   enough     a workspace for every circuit within the limits; the bits are those of the rows of 16 inputs
--   register   512 entries, all words 0
-- Assumes nothing.
use Rattle.std.specs.Prelude.{ℕ, ◌+◌, ◌*◌, List, replicate}
use Rattle.circuit.specs.Limits.{max_inputs, max_gates}
use Rattle.cubes.specs.declared.entry.Entry.{Entry}
use Rattle.cubes.specs.Cubes.{blank}
use Rattle.jobs.specs.Lists.{Room}

abbrev pub enough : Room
enough = record { gate_table = 2 * max_gates; bits = 2048; words = max_inputs + max_gates + 1; signals = max_inputs + max_gates + 1 }

-- the most cubes of a list
abbrev pub entry_count : ℕ
entry_count = 512

abbrev pub blank_register : List Entry
blank_register = replicate entry_count blank

-- a line of 30 inputs for each entry, and the other lines
abbrev pub text_bytes : ℕ
text_bytes = entry_count * 33 + 64

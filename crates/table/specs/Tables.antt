-- The table decider: a bit for each row, and what its making answers.
--   table          a list of words: row r is bit r mod 32 of word r / 32
--   rows_of        the rows that a table of n inputs means
--   word_of        a word of the table of a set: bits that are no rows are 0
--   filled         the table of a set, and further words as they were
--   table_answer   what making a table answers, with a table of so many words and a value table of so many places
--   stands         a table of n inputs may stand in so many words
--   fits           a row fits a question, where its bit of the table is `kind`
-- Assumes nothing.
use Rattle.std.specs.Prelude.{ℕ, ◌+◌, ◌*◌, ◌/◌, ◌%◌, ◌^◌, Bool, cond, not, ◌&&◌, List, ◌++◌, map, drop, Err, Result, nat_lt, nat_le, slice_index}
use Rattle.std.specs.List.{range_with_len}
use Rattle.faults.specs.declared.table.TableFault.{TableFault}
use Rattle.faults.specs.declared.table.TableFault.TheVariants.{TooManyInputs, BitsShort}
use Rattle.circuit.specs.Limits.{max_table_inputs}
use Rattle.circuit.specs.Kinds.{bit_at, same}
use Rattle.circuit.specs.Lanes.{lanes_of, words}
use Rattle.circuit.specs.Circuits.{Netlist}
use Rattle.circuit.specs.Answers.{with_room}
use Rattle.cubes.specs.declared.entry.Entry.{Entry}
use Rattle.cubes.specs.Cubes.{within, held}

-- ---- what a table means

abbrev pub table_rows : List ℕ → ℕ → Bool
table_rows ws row = bit_at (slice_index ws (row / 32)) (row % 32)

-- a table of 0 inputs has no rows; of a number past the rows only the inputs' bits count, as they do for a solution
abbrev pub rows_of : ℕ → List ℕ → ℕ → Bool
rows_of n ws row = nat_lt 0 n && table_rows ws (row % 2 ^ n)

-- ---- the making

abbrev pub word_of : ℕ → (ℕ → Bool) → ℕ → ℕ
word_of n set w = lanes_of 32 (λ b. set (32 * w + b) && nat_lt (32 * w + b) (2 ^ n))

abbrev pub filled : ℕ → (ℕ → Bool) → List ℕ → List ℕ
filled n set ws = map (word_of n set) (range_with_len 0 (words n)) ++ drop (words n) ws

-- what is refused, in this order: too many inputs, too few words, too few places of the value table
abbrev pub table_answer : Netlist → ℕ → ℕ → Result (Unit {0}) TableFault
table_answer c size places =
    cond (nat_lt max_table_inputs c.inputs) (Err (TooManyInputs c.inputs))
    (cond (nat_lt size (words c.inputs)) (Err (BitsShort (words c.inputs))) (with_room c places tt))

abbrev pub stands : ℕ → ℕ → Bool
stands n size = nat_le n max_table_inputs && nat_le (words n) size

-- ---- the questions

abbrev pub fits : ℕ → Bool → ℕ → ℕ → Bool → List Entry → ℕ → Bool
fits n kind care value wanted barred row =
    ((same wanted kind && nat_lt row (2 ^ n)) && within care value row) && not (held barred row)

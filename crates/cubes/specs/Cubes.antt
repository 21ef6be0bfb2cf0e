-- Cubes of rows and the register's entries.
--   row       a number below 2 ^ n: a bit for each of n inputs
--   cube      two numbers below number_limit: an input is fixed to its bit of value where its bit of care is 1, else open
--   within    the number has the cube's value at each input that the cube fixes
--   holds     the cube holds the row, with n inputs
--   entry     two words, each a kind in its top two bits and a number in its low 30: a cube, whatever the kinds
--   held      some entry of the list holds the row
--   Touch     the cube and the entry share a row
--   Touches   the place of the first entry that the cube touches, or none
-- Assumes nothing.
use Rattle.std.specs.Prelude.{◌≡◌, ℕ, ◌+◌, ◌*◌, ◌%◌, ◌^◌, ◌<◌, Bool, true, ◌&&◌, List, length, Option, MatchOption, ◌==◌, bit_and, nat_lt, slice_index_or}
use Rattle.std.specs.List.{list_any}
use Rattle.cubes.specs.Limits.{max_inputs}
use Rattle.cubes.specs.declared.entry.Entry.{Entry}

abbrev pub number_limit : ℕ
number_limit = 2 ^ max_inputs

abbrev pub within : ℕ → ℕ → ℕ → Bool
within care value row = bit_and row care == value

abbrev pub holds : ℕ → ℕ → ℕ → ℕ → Bool
holds n care value row = nat_lt row (2 ^ n) && within care value row

-- ---- entries

-- a word of a kind: 1 for a waiver's care, 2 for a listed cube's care, 3 for a value
abbrev pub word : ℕ → ℕ → ℕ
word kind number = kind * number_limit + number

abbrev pub waiver_entry : ℕ → ℕ → Entry
waiver_entry care value = record { care = word 1 care; value = word 3 value }

abbrev pub listed_entry : ℕ → ℕ → Entry
listed_entry care value = record { care = word 2 care; value = word 3 value }

abbrev pub care_of : Entry → ℕ
care_of e = e.care % number_limit

abbrev pub value_of : Entry → ℕ
value_of e = e.value % number_limit

-- what stands past the end of a list
abbrev pub blank : Entry
blank = record { care = 0; value = 0 }

-- ---- lists of entries

abbrev pub held : List Entry → ℕ → Bool
held es row = list_any (λ e. within (care_of e) (value_of e) row) es

-- a row that the cube and the entry share
pub record Shared (n care value : ℕ) (e : Entry) (row : ℕ) : Type 0 where
  pub below : row < 2 ^ n
  pub inside : within care value row ≡ true
  pub held : within (care_of e) (value_of e) row ≡ true

abbrev pub Touch : ℕ → ℕ → ℕ → Entry → Type 0
Touch n care value e = (row : ℕ) × Shared n care value e row

abbrev pub Touches : ℕ → ℕ → ℕ → List Entry → Option ℕ → Type 0
Touches n care value es r =
    MatchOption r ((i : ℕ) → i < length es → Touch n care value (slice_index_or es i blank) → ⊥)
    (λ i. (i < length es) × Touch n care value (slice_index_or es i blank) × ((j : ℕ) → j < i → Touch n care value (slice_index_or es j blank) → ⊥))

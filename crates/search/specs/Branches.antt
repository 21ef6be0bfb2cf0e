-- The branches of a search: what bars them, what the circuit gives on them, and what that decides.
--   place     the number of an input's bit in a row, from 0: of n inputs, input i has the place n - i
--   branch    the rows below 2^n of a cube that fixes none but the n inputs
--   open      the input at a place is, where the care has a 0 there
--   barring   what the barred entries do to a branch
--   verdict   what one look at a branch decides
-- Assumes nothing.
use Rattle.std.specs.Prelude.{◌≡◌, ℕ, ◌-◌, ◌/◌, ◌%◌, ◌^◌, ◌<◌, Bool, true, false, cond, ◌&&◌, List, Option, MatchOption, ◌==◌, bit_and, count_ones, nat_lt}
use Rattle.circuit.specs.declared.ternary.Ternary.{Ternary}
use Rattle.circuit.specs.declared.ternary.Ternary.TheVariants.{Zero, One, Unknown}
use Rattle.circuit.specs.Circuits.{Netlist, highest}
use Rattle.circuit.specs.Kinds.{bit_at}
use Rattle.cubes.specs.declared.entry.Entry.{Entry}
use Rattle.cubes.specs.Cubes.{within, held}
use Rattle.cubes.specs.Deciders.{Fitting}
use Rattle.search.specs.declared.barring.Barring.{Barring}
use Rattle.search.specs.declared.barring.Barring.TheVariants.{Free, Part, Whole}
use Rattle.search.specs.declared.verdict.Verdict.{Verdict}
use Rattle.search.specs.declared.verdict.Verdict.TheVariants.{Empty, Found, Split}

-- the input at place k is open
abbrev pub is_open : ℕ → ℕ → ℕ → Bool
is_open n care k = nat_lt k n && care / 2 ^ k % 2 == 0

-- how many inputs are open
abbrev pub open_count : ℕ → ℕ → ℕ
open_count n care = n - count_ones care

-- no input is open: the branch is one row
abbrev pub Single : ℕ → ℕ → Type 0
Single n care = (k : ℕ) → is_open n care k ≡ false

-- each row of the branch
abbrev pub Each : ℕ → ℕ → ℕ → (ℕ → Type 0) → Type 0
Each n care value Holds = (row : ℕ) → row < 2 ^ n → within care value row ≡ true → Holds row

-- two cubes have the same rows of n inputs
abbrev pub SameRows : ℕ → ℕ → ℕ → ℕ → ℕ → Type 0
SameRows n care value care' value' = (row : ℕ) → row < 2 ^ n → within care value row ≡ within care' value' row

-- of the n inputs, the branch fixes each one that a barred care fixes
abbrev pub fixes_all : ℕ → ℕ → ℕ → Bool
fixes_all n care barred = bit_and (bit_and barred (2 ^ n - 1)) care == bit_and barred (2 ^ n - 1)

-- of the branch's rows the entries hold none (Free) or all (Whole); what is left open (Part) is a branch of more than one row
abbrev pub Barred : ℕ → ℕ → ℕ → List Entry → Barring → Type 0
Barred n care value entries Free = Each n care value (λ row. held entries row ≡ false)
Barred n care value entries (Part e) = Single n care → ⊥
Barred n care value entries Whole = Each n care value (λ row. held entries row ≡ true)

-- the branch is of the circuit's rows, and a value table of so many places has one for each variable
pub record Ready (c : Netlist) (inputs places : ℕ) : Type 0 where
  pub same : inputs ≡ c.inputs
  pub room : highest c < places

-- what the branch gives the input at place k
abbrev pub signal_of : ℕ → ℕ → ℕ → ℕ → Ternary
signal_of n care value k = cond (is_open n care k) Unknown (cond (bit_at value k) One Zero)

-- the same by the bits alone, where a place past those of a number stands for another
abbrev pub told_at : ℕ → ℕ → ℕ → Ternary
told_at care value k = cond (bit_at care (k % 32)) (cond (bit_at value (k % 32)) One Zero) Unknown

-- the bit that each row of the branch has in the set; it may stay unknown where the branch has more than one row
abbrev pub Known : ℕ → ℕ → ℕ → (ℕ → Bool) → Option Bool → Type 0
Known n care value set r = MatchOption r (Single n care → ⊥) (λ bit. Each n care value (λ row. set row ≡ bit))

-- no row of the branch fits the question, or this one does, or it is not seen, and the branch has more than one row
abbrev pub Decided : ℕ → (ℕ → Bool) → ℕ → ℕ → Bool → List Entry → Verdict → Type 0
Decided n set care value wanted entries Empty = (row : ℕ) → Fitting n set care value wanted entries row → ⊥
Decided n set care value wanted entries (Found row) = Fitting n set care value wanted entries row
Decided n set care value wanted entries (Split place) = Single n care → ⊥

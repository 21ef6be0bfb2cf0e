-- Which cube comes next: the lead, and the widest cube around it. Assumes nothing.
--
-- row of n inputs: a number below 2 ^ n, input 1 its highest bit
-- set: a test of rows
-- without: the rows of a set that are not in another
-- lead: the smallest row of a set
-- good: a cube that holds only rows of the set
-- care: a bit for each input, 1 where a cube fixes it and 0 where it is open
-- around a row: the cube that fixes the inputs of a care to the row's bits, so that its value is `bit_and row care`
-- widest: the care of the row alone, with inputs 1 to n in turn opened wherever the cube around the row stays good
-- Settled: what the widest care is, without those steps
use Rattle.std.specs.Prelude.{◌≡◌, ℕ, zero, suc, ◌+◌, ◌-◌, ◌*◌, ◌/◌, ◌%◌, ◌^◌, ◌<◌, Bool, cond, not, ◌&&◌, Some, None, Option, bit_and, is_none}
use Rattle.std.specs.Option.{option_or}
use Rattle.cubes.specs.Cubes.{holds}

abbrev pub without : (ℕ → Bool) → (ℕ → Bool) → ℕ → Bool
without set other row = set row && not (other row)

-- ---- the smallest number below a bound that passes a test

unfoldable pub least : (ℕ → Bool) → ℕ → Option ℕ
least test zero = None
least test (suc bound) = option_or (least test bound) (cond (test bound) (Some bound) None)

-- ---- leads and cubes

abbrev pub lead : ℕ → (ℕ → Bool) → Option ℕ
lead n set = least set (2 ^ n)

-- no row of the cube is outside the set
abbrev pub good : ℕ → (ℕ → Bool) → ℕ → ℕ → Bool
good n set care value = is_none (lead n (without (holds n care value) set))

-- the care whose first inputs are `decided`, and whose last b inputs are fixed
abbrev pub rest : ℕ → ℕ → ℕ
rest b decided = decided * 2 ^ b + (2 ^ b - 1)

-- b inputs are left: the next one is opened (0) if the care that opens it fits, and else stays fixed (1)
unfoldable pub widened : (ℕ → Bool) → ℕ → ℕ → ℕ
widened fits zero decided = decided
widened fits (suc b) decided = widened fits b (2 * decided + cond (fits (rest b (2 * decided))) 0 1)

-- the cares whose cubes around the row are good
abbrev pub good_around : ℕ → (ℕ → Bool) → ℕ → ℕ → Bool
good_around n set row care = good n set care (bit_and row care)

abbrev pub widest : ℕ → (ℕ → Bool) → ℕ → ℕ
widest n set row = widened (good_around n set row) n 0

-- An input (bit b) is open exactly when the care fits that is as this one at the inputs before it, open at it and fixed at those after it.
abbrev pub Settled : (ℕ → Bool) → ℕ → ℕ → Type 0
Settled fits n care = (care < 2 ^ n) × ((b : ℕ) → b < n → (care / 2 ^ b) % 2 ≡ cond (fits (rest b (2 * (care / 2 ^ suc b)))) 0 1)

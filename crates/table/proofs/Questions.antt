-- A question, a word at a time: which rows fit, and between which words they lie.
use Rattle.std.proofs.Common.{◌≡◌, ℕ, ◌+◌, ◌-◌, ◌*◌, ◌%◌, ◌^◌, ◌<◌, ◌≤◌, Bool, true, false, not, ◌&&◌, ◌||◌, List, get_or, sym, refl, ap, ◌∙◌, subst, ap₂, mod-lt, arith, pow_pos, ltb-true, lt-ltb, eqb-true, eq-eqb, inl, inr}
use lib.Bits.{bit_and, and_le_l, and_mask, or_add_and, or_lt}
use lib.Count.{count_trailing_zeros}
use borrow.Author.Tests.{clash}
use Rattle.std.specs.Int.{w32}
use Rattle.std.proofs.lemmas.Bool.{and_parts, and_from, not-true, cases_lt}
use Rattle.std.proofs.lemmas.Nat.Bits.{bit_at-trailing_zeros}
use Rattle.circuit.specs.Kinds.{bit_at, same}
use Rattle.circuit.specs.Lanes.{Lanes}
use Rattle.circuit.proofs.Lanes.{zero_lane}
use Rattle.circuit.specs.Words.{same_is, same_true}
use Rattle.cubes.specs.declared.entry.Entry.{Entry}
use Rattle.cubes.specs.Cubes.{within}
use Rattle.cubes.proofs.Bits.{and_low}
use Rattle.cubes.specs.Deciders.{Fitting}
use Rattle.table.specs.Tables.{table_rows, fits}
use Rattle.table.proofs.Masks.{row_high, row_low}

-- ---- a fitting row, by its bit

module _ (n : ℕ) (set : ℕ → Bool) (care value : ℕ) (wanted : Bool) (barred : List Entry) (row : ℕ) where
  fits_so : fits n (set row) care value wanted barred row ≡ true → Fitting n set care value wanted barred row
  fits_so h =
      let a = and_parts _ _ h in
      let b = and_parts _ _ a.0 in
      let c = and_parts _ _ b.0 in
      record { below = ltb-true row (2 ^ n) c.1; inside = b.1; free = not-true _ a.1; kind = sym (same_is wanted (set row) c.0) }

  so_fits : Fitting n set care value wanted barred row → fits n (set row) care value wanted barred row ≡ true
  so_fits f =
      and_from _ _ (and_from _ _ (and_from _ _ (ap (same wanted) f.kind ∙ same_true wanted) (lt-ltb row (2 ^ n) f.below)) f.inside) (ap not f.free)

-- ---- one word of the table

module _ (n : ℕ) (ws : List ℕ) (care value : ℕ) (wanted : Bool) (barred : List Entry) (w : ℕ) where
  -- the lane fits
  abbrev lane_fits : ℕ → Bool
  lane_fits b = fits n (bit_at (get_or ws w 0) b) care value wanted barred (32 * w + b)

  -- its row fits
  abbrev RowFits : ℕ → Type 0
  RowFits b = Fitting n (table_rows ws) care value wanted barred (32 * w + b)

  lane_row : (b : ℕ) → b < 32 → fits n (table_rows ws (32 * w + b)) care value wanted barred (32 * w + b) ≡ lane_fits b
  lane_row b l =
      ap₂ (λ i j. fits n (bit_at (get_or ws i 0) j) care value wanted barred (32 * w + b)) (row_high w b l) (row_low w b l)

  pub lowest_fits : (left : ℕ) → left < 2 ^ 32 → 0 < left → Lanes left lane_fits → RowFits (count_trailing_zeros 32 left)
  lowest_fits left small some lanes =
      let b = count_trailing_zeros 32 left in
      let lowest = bit_at-trailing_zeros w32 left some small in
      fits_so n (table_rows ws) care value wanted barred (32 * w + b) (lane_row b lowest.0 ∙ sym (lanes b lowest.0) ∙ eq-eqb _ _ lowest.1)

  pub none_fits : (left : ℕ) → left ≡ 0 → Lanes left lane_fits → (b : ℕ) → b < 32 → RowFits b → ⊥
  none_fits left none lanes b l f =
      clash (sym (ap (λ x. bit_at x b) none ∙ zero_lane b) ∙ lanes b l ∙ sym (lane_row b l)
      ∙ so_fits n (table_rows ws) care value wanted barred (32 * w + b) f)

-- one more word
pub next_word : (P : ℕ → Type 0) (w : ℕ) → ((row : ℕ) → row < 32 * w → P row) → ((b : ℕ) → b < 32 → P (32 * w + b))
    → (row : ℕ) → row < 32 * (w + 1) → P row
next_word P w old new row h =
    elim (cases_lt row (32 * w)) [
      | inl below ↦ old row below
      | inr above ↦ subst P (sub-split row (32 * w) above) (new (row - 32 * w) (omega arith))
    ]
  where
    sub-split : (a b : ℕ) → b ≤ a → b + (a - b) ≡ a
    sub-split a b le = omega arith

-- ---- between which numbers the rows of a cube lie

pub within_least : (care value row : ℕ) → within care value row ≡ true → value ≤ row
within_least care value row h = omega (arith, eqb-true _ _ h, and_le_l row care)

-- at most the value with each open input 1
pub within_most : (n care value row : ℕ) → row < 2 ^ n → within care value row ≡ true → row ≤ value + (2 ^ n - 1 - care % 2 ^ n)
within_most n care value row lt h =
    let p = pow_pos n in
    let m = mod-lt care p in
    let low : bit_and row (care % 2 ^ n) ≡ bit_and row care =
    ap (bit_and row) (sym (and_mask care n)) ∙ and_low row care n lt in
    let is = eqb-true _ _ h in
    omega (arith, or_add_and row (care % 2 ^ n), or_lt n row (care % 2 ^ n) lt m)

-- ---- one more barred entry

pub bar : (l h r : Bool) → ((l && not h) && not r) ≡ (l && not (h || r))
bar true true r = refl
bar true false r = refl
bar false h r = refl

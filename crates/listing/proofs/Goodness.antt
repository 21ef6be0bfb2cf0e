-- The widest cube around a row of a set: it holds the row, only rows of the set, and cannot be opened further.
use Rattle.std.proofs.Common.{◌≡◌, ℕ, suc, ◌-◌, ◌*◌, ◌/◌, ◌%◌, ◌^◌, ◌<◌, Bool, true, false, not, ◌&&◌, sym, ap, ◌∙◌, mod-eq_of_lt, arith, is_none}
use mathlib.Core.Path.{fun_ext}
use lib.Bits.{bit_and, and_mask, and_le_r}
use Rattle.std.proofs.lemmas.Bool.Decides.{nat_tests}
use Rattle.cubes.specs.Cubes.{holds}
use Rattle.cubes.proofs.Bits.{and_assoc}
use Rattle.listing.specs.Widest.{without, good, rest, widened, good_around, widest}
use Rattle.listing.proofs.Least.{least_cong, none_all, none_not, none_from, some_from}
use Rattle.listing.proofs.Cares.{agree, opened_inside, opened_inside_rest}
use Rattle.listing.proofs.Settled.{widened_fits, widened_below, widened_fixed}

pub holds_parts : (n care value r : ℕ) → holds n care value r ≡ true → (r < 2 ^ n) × (bit_and r care ≡ value)
holds_parts n care value r e = grind (arith, nat_tests)

pub holds_from : (n care value r : ℕ) → r < 2 ^ n → bit_and r care ≡ value → holds n care value r ≡ true
holds_from n care value r l e = grind (arith, nat_tests)

pub without_parts : (P Q : ℕ → Bool) (r : ℕ) → without P Q r ≡ true → (P r ≡ true) × (Q r ≡ false)
without_parts P Q r e = grind arith

pub without_from : (P Q : ℕ → Bool) (r : ℕ) → P r ≡ true → Q r ≡ false → without P Q r ≡ true
without_from P Q r e f = grind arith

-- ---- good cubes, row by row

module _ (n : ℕ) (P : ℕ → Bool) (care value : ℕ) where
  pub good_only : good n P care value ≡ true → (r : ℕ) → holds n care value r ≡ true → P r ≡ true
  good_only e r h = let b = none_all _ _ e r (holds_parts n care value r h).0 in grind arith

  pub good_from : ((r : ℕ) → holds n care value r ≡ true → P r ≡ true) → good n P care value ≡ true
  good_from h = none_from _ _ (λ r l. grind (arith, h r))

  pub good_not : good n P care value ≡ false → (r : ℕ) × (holds n care value r ≡ true) × (P r ≡ false)
  good_not e = let f = none_not _ _ e in let p = without_parts (holds n care value) P f.0 f.2 in (f.0, p.0, p.1)

  pub not_good : (r : ℕ) → holds n care value r ≡ true → P r ≡ false → good n P care value ≡ false
  not_good r h e = some_from _ _ r (holds_parts n care value r h).0 (without_from (holds n care value) P r h e)

-- ---- the same rows give the same cube

pub widest_cong : (n : ℕ) (P Q : ℕ → Bool) (row : ℕ) → ((r : ℕ) → r < 2 ^ n → P r ≡ Q r) → widest n P row ≡ widest n Q row
widest_cong n P Q row h =
    ap (λ (f : ℕ → Bool). widened f n 0)
    (fun_ext (λ care. ap is_none (least_cong _ _ (2 ^ n) (λ r l. ap (λ (t : Bool). holds n care (bit_and row care) r && not t) (h r l)))))

-- ---- the widest cube

module _ (n : ℕ) (P : ℕ → Bool) (row : ℕ) (below : row < 2 ^ n) (wanted : P row ≡ true) where
  alone_good : good_around n P row (rest n 0) ≡ true
  alone_good =
      good_from n P _ _
      (λ r h. let p = holds_parts n _ _ r h in rw (← low row below, ← p.1, low r p.0) at wanted)
    where
      low : (r : ℕ) → r < 2 ^ n → bit_and r (rest n 0) ≡ r
      low r l = ap (bit_and r) (let z : rest n 0 ≡ 2 ^ n - 1 = omega arith in z) ∙ and_mask r n ∙ mod-eq_of_lt l

  pub widest_only : (r : ℕ) → holds n (widest n P row) (bit_and row (widest n P row)) r ≡ true → P r ≡ true
  widest_only = good_only n P _ _ (widened_fits (good_around n P row) n 0 alone_good)

  pub widest_wide : (b : ℕ) → b < n → (widest n P row / 2 ^ b) % 2 ≡ 1
      → (r : ℕ) × (holds n (widest n P row - 2 ^ b) (bit_and (bit_and row (widest n P row)) (widest n P row - 2 ^ b)) r ≡ true) × (P r ≡ false)
  widest_wide b l e =
      let C : ℕ = widest n P row in
      let c : ℕ = rest b (2 * (C / 2 ^ suc b)) in
      let f = good_not n P c (bit_and row c) (widened_fixed (good_around n P row) n b l e) in
      let p = holds_parts n c (bit_and row c) f.0 f.1 in (
        f.0,
        holds_from n (C - 2 ^ b) (bit_and (bit_and row C) (C - 2 ^ b)) f.0 p.0
            (agree f.0 row (C - 2 ^ b) c (opened_inside_rest C b e) p.1
            ∙ ap (bit_and row) (sym (opened_inside C b e)) ∙ sym (and_assoc row C (C - 2 ^ b))),
        f.2,
      )

pub widest_fits : (n : ℕ) (P : ℕ → Bool) (row : ℕ) → (widest n P row < 2 ^ n) × (bit_and row (widest n P row) < 2 ^ n)
widest_fits n P row =
    let l = widened_below (good_around n P row) n in (l, omega (arith, and_le_r row (widest n P row)))

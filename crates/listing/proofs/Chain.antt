-- A list whose every cube is the widest around its lead holds only unwaived rows, and none can be opened further.
use Rattle.std.proofs.Common.{◌≡◌, ℕ, ◌-◌, ◌/◌, ◌%◌, ◌^◌, ◌<◌, Bool, true, false, not, ◌&&◌, ◌⊎◌, List, length, take, Some, refl, ap₂, arith}
use lib.Bits.{bit_and}
use Rattle.std.proofs.lemmas.Bool.{both_ways}
use Rattle.cubes.specs.declared.cube.Cube.{Cube}
use Rattle.cubes.specs.Cubes.{holds}
use Rattle.listing.specs.declared.mode.Mode.{Mode}
use Rattle.listing.specs.declared.mode.Mode.TheVariants.{Separate, Shared}
use Rattle.listing.specs.Widest.{without, lead, widest}
use Rattle.listing.specs.Calls.{allowed}
use Rattle.listing.specs.Theorem.{in_some, at, Holds}
use Rattle.listing.proofs.Least.{Least, least_some, least_cong}
use Rattle.listing.proofs.Goodness.{without_parts, holds_from, widest_only, widest_wide, widest_cong}
use Rattle.listing.proofs.Lists.{before_by}

-- ---- the rows that a new cube may hold

-- an allowed row is wanted and, in mode 1, not covered; of the others one of these fails
allowed_tells : (mode : Mode) (U T : ℕ → Bool) (r : ℕ) → ((allowed mode U T r ≡ true) × (U r ≡ true) × (mode ≡ Separate → T r ≡ false))
    ⊎ ((allowed mode U T r ≡ false) × ((U r ≡ false) ⊎ ((mode ≡ Separate) × (T r ≡ true))))
allowed_tells Separate U T r = grind arith
allowed_tells Shared U T r = grind arith

-- equal rows give one lead and one care
module _ (n : ℕ) (U V T W : ℕ → Bool) (wanted : (r : ℕ) → r < 2 ^ n → U r ≡ V r) (covered : (r : ℕ) → T r ≡ W r) where
  pub lead_cong : lead n (without U T) ≡ lead n (without V W)
  lead_cong = least_cong _ _ (2 ^ n) (λ r l. ap₂ (λ (x y : Bool). x && not y) (wanted r l) (covered r))

  pub care_cong : (mode : Mode) (row : ℕ) → widest n (allowed mode U T) row ≡ widest n (allowed mode V W) row
  care_cong Separate row = widest_cong n _ _ row (λ r l. ap₂ (λ (x y : Bool). x && not y) (wanted r l) (covered r))
  care_cong Shared row = widest_cong n _ _ row wanted

-- ---- chains

-- cube q comes next after cs, where U are the unwaived rows
pub record Follows (n : ℕ) (mode : Mode) (U : ℕ → Bool) (cs : List Cube) (q : Cube) : Type 0 where
  pub row : ℕ
  pub leads : lead n (without U (in_some cs)) ≡ Some row
  pub care : q.care ≡ widest n (allowed mode U (in_some cs)) row
  pub value : q.value ≡ bit_and row q.care

abbrev pub Chain : ℕ → Mode → (ℕ → Bool) → List Cube → Type 0
Chain n mode U cs = (i : ℕ) → i < length cs → Follows n mode U (take i cs) (at cs i)

module _ (n : ℕ) (mode : Mode) (U : ℕ → Bool) (cs : List Cube) (chain : Chain n mode U cs) where
  pub lead_of : (i : ℕ) (l : i < length cs) → Least (without U (in_some (take i cs))) (2 ^ n) (chain i l).row
  lead_of i l = least_some _ (2 ^ n) (chain i l).row (chain i l).leads

  pub lead_parts : (i : ℕ) (l : i < length cs) → (U (chain i l).row ≡ true) × (in_some (take i cs) (chain i l).row ≡ false)
  lead_parts i l = without_parts U (in_some (take i cs)) (chain i l).row (lead_of i l).passes

  -- the rows that cube i may hold
  abbrev free : ℕ → ℕ → Bool
  free i = allowed mode U (in_some (take i cs))

  lead_free : (i : ℕ) (l : i < length cs) → free i (chain i l).row ≡ true
  lead_free i l = let p = lead_parts i l in grind (arith, allowed_tells mode U (in_some (take i cs)) (chain i l).row)

  held_free : (i r : ℕ) → Holds n cs i r → free i r ≡ true
  held_free i r h =
      let f = chain i h.0 in widest_only n (free i) f.row (lead_of i h.0).below (lead_free i h.0) r (rw (f.value, f.care) at h.1)

  pub chain_only : (i r : ℕ) → Holds n cs i r → U r ≡ true
  chain_only i r h = grind (arith, held_free i r h, allowed_tells mode U (in_some (take i cs)) r)

  pub chain_apart : mode ≡ Separate → (i j r : ℕ) → j < i → Holds n cs i r → Holds n cs j r → ⊥
  chain_apart m i j r k h g =
      let l = h.0 in grind (arith, held_free i r h, allowed_tells mode U (in_some (take i cs)) r, before_by n cs i j r (omega arith) k g)

  pub chain_holds : (i : ℕ) (l : i < length cs) → Holds n cs i (chain i l).row
  chain_holds i l = let f = chain i l in (l, rw (f.value, f.care) (holds_from n _ _ f.row (lead_of i l).below refl))

  pub chain_wide : (i b : ℕ) → i < length cs → b < n → ((at cs i).care / 2 ^ b) % 2 ≡ 1
      → (r : ℕ) × (holds n ((at cs i).care - 2 ^ b) (bit_and (at cs i).value ((at cs i).care - 2 ^ b)) r ≡ true)
      × (Holds n cs i r → ⊥) × ((U r ≡ false) ⊎ ((mode ≡ Separate) × (in_some (take i cs) r ≡ true)))
  chain_wide i b l k e =
      let f = chain i l in
      let t = widest_wide n (free i) f.row (lead_of i l).below (lead_free i l) b k (rw f.care at e) in (
        t.0,
        rw (f.value, f.care) t.1,
        (λ h. both_ways (free i t.0) t.2 (held_free i t.0 h)),
        grind (arith, t.2, allowed_tells mode U (in_some (take i cs)) t.0),
      )

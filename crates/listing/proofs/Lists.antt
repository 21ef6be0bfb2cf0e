-- A list of cubes that holds a row: in some cube, or among the first ones.
use Rattle.std.proofs.Common.{◌≡◌, ℕ, zero, suc, ◌^◌, ◌<◌, ◌≤◌, true, false, List, [], ◌∷◌, length, take, refl, inl, inr, arith, length-take-le, get_or-take}
use mathlib.Core.HLevel.{is_prop→PathP, ×_prop}
use native.Mathlib.Bridge.{le_prop}
use Rattle.std.proofs.lemmas.Bool.{both_ways, lt-ltb, and_from, or_cases, or_parts, or_from}
use Rattle.cubes.specs.declared.cube.Cube.{Cube}
use Rattle.cubes.specs.Cubes.{within, blank}
use Rattle.listing.specs.Stories.{cube_of}
use Rattle.listing.specs.Theorem.{in_some, Holds}

-- cubes with the same numbers are the same
pub cube_same : (p q : Cube) → p.care ≡ q.care → p.value ≡ q.value → p ≡ q
cube_same p q e f =
    λ i. record {
      care = e i;
      value = f i;
      numbers = is_prop→PathP (λ j. (e j < 2 ^ 30) × (f j < 2 ^ 30)) (λ j. ×_prop le_prop le_prop) p.numbers q.numbers i;
    }

pub some_at : (n : ℕ) (cs : List Cube) (r : ℕ) → r < 2 ^ n → in_some cs r ≡ true → (i : ℕ) × Holds n cs i r
some_at n [] r l e = absurd (both_ways false refl e)
some_at n (q ∷ qs) r l e =
    elim (or_cases (within q.care q.value r) (in_some qs r) e) [
      | inl h ↦ (0, (omega arith, and_from _ _ (lt-ltb r (2 ^ n) l) h))
      | inr h ↦ (let t = some_at n qs r l h in (suc t.0, (omega arith, t.1.1)))
    ]

pub some_by : (n : ℕ) (cs : List Cube) (i r : ℕ) → Holds n cs i r → in_some cs r ≡ true
some_by n [] i r h = absurd (omega arith)
some_by n (q ∷ qs) zero r h = grind (arith, h.1)
some_by n (q ∷ qs) (suc i) r h = let ih = some_by n qs i r (omega arith, h.1) in grind arith

-- cube j is among the first i
pub before_by : (n : ℕ) (cs : List Cube) (i j r : ℕ) → i ≤ length cs → j < i → Holds n cs j r → in_some (take i cs) r ≡ true
before_by n cs i j r l k h =
    some_by n (take i cs) j r (simp (length-take-le i cs l) k, rw (get_or-take i cs j (cube_of blank) k) h.1)

-- what the first j do not hold, fewer of them do not
pub before_less : (cs : List Cube) (i j r : ℕ) → i ≤ j → in_some (take j cs) r ≡ false → in_some (take i cs) r ≡ false
before_less cs zero j r m e = refl
before_less [] (suc i) j r m e = refl
before_less (q ∷ qs) (suc i) zero r m e = absurd (omega arith)
before_less (q ∷ qs) (suc i) (suc j) r m e =
    let p = or_parts (within q.care q.value r) (in_some (take j qs) r) e in or_from _ _ p.0 (before_less qs i j r (omega arith) p.1)

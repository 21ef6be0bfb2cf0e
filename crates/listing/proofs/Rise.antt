-- In a chain each cube's lead is the smallest row that it newly covers, and these rows rise.
use Rattle.std.proofs.Common.{◌≡◌, ℕ, ◌<◌, ◌≤◌, Bool, true, false, List, length, take, arith}
use Rattle.std.proofs.lemmas.Bool.{both_ways}
use Rattle.cubes.specs.declared.cube.Cube.{Cube}
use Rattle.listing.specs.declared.mode.Mode.{Mode}
use Rattle.listing.specs.Theorem.{in_some, Smallest}
use Rattle.listing.proofs.Lists.{before_by, before_less}
use Rattle.listing.proofs.Chain.{Chain, lead_of, lead_parts, chain_only, chain_holds}

module _ (n : ℕ) (mode : Mode) (U : ℕ → Bool) (cs : List Cube) (chain : Chain n mode U cs) where
  -- a wanted row that no earlier cube holds is not below the lead
  lead_le : (i : ℕ) (l : i < length cs) (s : ℕ) → U s ≡ true → in_some (take i cs) s ≡ false → (chain i l).row ≤ s
  lead_le i l s u free = grind (arith, (lead_of n mode U cs chain i l).first s)

  pub chain_smallest : (i : ℕ) (l : i < length cs) → Smallest n cs i (chain i l).row
  chain_smallest i l = (
    (chain_holds _ _ _ _ chain i l, (lead_parts _ _ _ _ chain i l).1),
    λ s new. lead_le i l s (chain_only _ _ _ _ chain i s new.0) new.1,
  )

  pub chain_rises : (i j r s : ℕ) → i < j → Smallest n cs i r → Smallest n cs j s → r < s
  chain_rises i j r s k a b =
      let li : i < length cs = a.0.0.0 in
      let lj : j < length cs = b.0.0.0 in
      let x : ℕ = (chain i li).row in
      let y : ℕ = (chain j lj).row in
      let p = chain_smallest i li in
      let q = chain_smallest j lj in
      let g = lead_parts _ _ _ _ chain j lj in
      let rx : r ≤ x = a.1 x p.0 in
      let ys : y ≤ s = q.1 s b.0 in
      let xy : x ≤ y = lead_le i li y g.0 (before_less cs i j y (omega arith) g.1) in
      let ne : x ≡ y → ⊥ = λ e. both_ways (in_some (take j cs) y) g.1 (before_by n cs j i y (omega arith) k (rw e at p.0.0)) in
      omega (arith, ne)

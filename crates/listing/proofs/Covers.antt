-- A chain is tight, and covers every unwaived solution once no lead is left.
use Rattle.std.proofs.Common.{◌≡◌, ℕ, ◌^◌, ◌<◌, Bool, true, List, None, inl, inr, arith}
use Rattle.std.proofs.lemmas.Bool.{cases_order}
use Rattle.cubes.specs.declared.cube.Cube.{Cube}
use Rattle.listing.specs.declared.mode.Mode.{Mode}
use Rattle.listing.specs.declared.mode.Mode.TheVariants.{Separate}
use Rattle.listing.specs.declared.states.Draft.{Draft}
use Rattle.listing.specs.Widest.{without, lead}
use Rattle.listing.specs.Theorem.{in_some, unwaived, Holds, Tight}
use Rattle.listing.proofs.Least.{least_none}
use Rattle.listing.proofs.Lists.{some_at, some_by}
use Rattle.listing.proofs.Chain.{Chain, chain_only, chain_apart, chain_wide}
use Rattle.listing.proofs.Rise.{chain_smallest, chain_rises}
use Rattle.listing.proofs.Counts.{bool_same}

pub chain_tight : (d : Draft) (S : ℕ → Bool) (ws cs : List Cube) → Chain d.arity.inputs d.mode (unwaived S ws) cs → Tight d S ws cs
chain_tight d S ws cs chain =
    record {
      wide = λ i b l k e.
          let t = chain_wide _ _ _ _ chain i b l k e in (t.0, t.1, t.2, grind (arith, t.3));
      fresh = λ i l. ((chain i l).row, chain_smallest _ _ _ cs chain i l);
      rises = chain_rises _ _ _ _ chain;
    }

module _ (n : ℕ) (S : ℕ → Bool) (ws cs : List Cube) (ends : lead n (without (unwaived S ws) (in_some cs)) ≡ None) where
  pub chain_some : (r : ℕ) → r < 2 ^ n → unwaived S ws r ≡ true → (i : ℕ) × Holds n cs i r
  chain_some r l u = let f = least_none _ (2 ^ n) ends r l in some_at n cs r l (grind arith)

  pub chain_covers : (mode : Mode) → Chain n mode (unwaived S ws) cs → (r : ℕ) → r < 2 ^ n → unwaived S ws r ≡ true
      → (i : ℕ) × Holds n cs i r × (mode ≡ Separate → (j : ℕ) → Holds n cs j r → j ≡ i)
  chain_covers mode chain r l u =
      let t = chain_some r l u in
      let apart = chain_apart n _ _ cs chain in (
        t.0,
        t.1,
        λ m j h. elim (cases_order j t.0)
            [ inl e ↦ e | inr (inl k) ↦ absurd (apart m t.0 j r k t.1 h) | inr (inr k) ↦ absurd (apart m j t.0 r k h t.1) ],
      )

-- the unwaived solutions are the rows of a finished list
pub chain_all : (n : ℕ) (S : ℕ → Bool) (ws cs : List Cube) (mode : Mode) → Chain n mode (unwaived S ws) cs → lead n (without (unwaived S ws) (in_some cs)) ≡ None
    → (r : ℕ) → r < 2 ^ n → unwaived S ws r ≡ in_some cs r
chain_all n S ws cs mode chain ends r l =
    bool_same (unwaived S ws r) (in_some cs r)
    (λ u. let t = chain_some n S ws cs ends r l u in some_by n cs t.0 r t.1)
    (λ e. let t = some_at n cs r l e in chain_only _ _ _ _ chain t.0 r t.1)

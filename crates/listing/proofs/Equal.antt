-- Two finished chains are equal exactly when the same solutions were left unwaived.
use Rattle.std.proofs.Common.{◌≡◌, ℕ, ◌^◌, ◌<◌, Bool, ◌↔◌, List, None, sym, ◌∙◌}
use Rattle.cubes.specs.declared.cube.Cube.{Cube}
use Rattle.listing.specs.declared.mode.Mode.{Mode}
use Rattle.listing.specs.Widest.{without, lead}
use Rattle.listing.specs.Theorem.{in_some, unwaived}
use Rattle.listing.proofs.Chain.{Chain}
use Rattle.listing.proofs.Same.{same_chains}
use Rattle.listing.proofs.Covers.{chain_all}

-- a chain that has come to its end
pub record Whole (n : ℕ) (mode : Mode) (S : ℕ → Bool) (ws cs : List Cube) : Type 0 where
  pub chain : Chain n mode (unwaived S ws) cs
  pub ends : lead n (without (unwaived S ws) (in_some cs)) ≡ None

-- modes and numbers of inputs that are equal, and not merely the same
pub equal_lists_lem : (n n' : ℕ) (mode mode' : Mode) (S S' : ℕ → Bool) (ws ws' cs cs' : List Cube) → mode ≡ mode' → n ≡ n'
    → Whole n mode S ws cs → Whole n' mode' S' ws' cs' → (cs ≡ cs') ↔ ((r : ℕ) → r < 2 ^ n → unwaived S ws r ≡ unwaived S' ws' r)
equal_lists_lem n n' mode mode' S S' ws ws' cs cs' m e w w' =
    let v : Whole n mode S' ws' cs' = rw (e, m) w' in (
      (λ same r l. chain_all n S ws cs mode w.chain w.ends r l ∙ rw same (sym (chain_all n S' ws' cs' mode v.chain v.ends r l))),
      λ h. same_chains _ _ _ _ h cs cs' w.chain v.chain w.ends v.ends,
    )

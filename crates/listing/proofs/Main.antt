-- The main theorem: what every story keeps gives each of its parts.
use Rattle.std.proofs.Common.{◌≡◌, ℕ, ◌≤◌, Bool, List, map, length, take, drop, sym, refl, arith, length-drop, length-take-le, take-add}
use lib.ListN.{length-map}
use Rattle.cubes.specs.declared.cube.Cube.{Cube}
use Rattle.cubes.specs.declared.entry.Entry.{Entry}
use Rattle.listing.specs.Widest.{good_around}
use Rattle.listing.specs.Calls.{waiver_of, listed_of}
use Rattle.listing.specs.Stories.{Listing, draft, running, finished, Story}
use Rattle.listing.specs.Theorem.{draft_of, cubes_of, Registered, StoriesHold}
use Rattle.listing.proofs.Chain.{chain_only}
use Rattle.listing.proofs.Settled.{widened_settled}
use Rattle.listing.proofs.Covers.{chain_tight, chain_covers, chain_all}
use Rattle.listing.proofs.Equal.{equal_lists_lem}
use Rattle.listing.proofs.Totals.{kept_totals}
use Rattle.listing.proofs.Kept.{Kept, KeptBy}
use Rattle.listing.proofs.Steps.{story_kept}

-- ---- the register

length_is : {A B : Type 0} (f : A → B) (xs : List B) (ys : List A) (k : ℕ) → k ≤ length xs → take k xs ≡ map f ys → k ≡ length ys
length_is f xs ys k h e = rw (e, length-map) at (sym (length-take-le k xs h))

kept_registered : (S : ℕ → Bool) (l : Listing) (reg : List Entry) (ws cs : List Cube) → Kept S (draft_of l) (cubes_of l) reg ws cs → Registered l reg ws cs
kept_registered S l reg ws cs v =
    let h = v.room in
    let w = length_is waiver_of reg ws _ (omega arith) v.waivers in
    let k = length_is listed_of (drop (draft_of l).waivers reg) cs _ (simp length-drop (omega arith)) v.cubes in
    record { waivers = w; cubes = k; entries = rw (← w, ← k, take-add, v.waivers, v.cubes) refl }

-- ---- stories

kept_of : (S : ℕ → Bool) (l : Listing) (reg : List Entry) (ws cs : List Cube) → KeptBy S l reg ws cs → Kept S (draft_of l) (cubes_of l) reg ws cs
kept_of S (draft d) reg ws cs v = v
kept_of S (running l) reg ws cs v = v
kept_of S (finished f) reg ws cs v = v.0

kept : (N : ℕ) (S : ℕ → Bool) {l : Listing} {reg : List Entry} {ws cs : List Cube} → Story N S l reg ws cs → Kept S (draft_of l) (cubes_of l) reg ws cs
kept N S s = kept_of S _ _ _ _ (story_kept N S s)

pub stories_hold : StoriesHold
stories_hold =
    record {
      only = λ N S l reg ws cs s. chain_only _ _ _ _ (kept N S s).chain;
      cover = λ N S f reg ws cs s. let v = story_kept N S s in chain_covers _ S ws _ v.1 _ v.0.chain;
      tight = λ N S l reg ws cs s. chain_tight _ S ws _ (kept N S s).chain;
      equal_lists = λ N S f reg ws cs s N' S' f' reg' ws' cs' s' m e.
          let v = story_kept N S s in
          let v' = story_kept N' S' s' in
          equal_lists_lem _ _ _ _ S S' ws ws' cs cs' m e (record { chain = v.0.chain; ends = v.1 }) (record { chain = v'.0.chain; ends = v'.1 });
      registered = λ N S l reg ws cs s. kept_registered S l reg ws cs (kept N S s);
      totals = λ N S f reg ws cs s k total e.
          let v = story_kept N S s in kept_totals S f reg ws cs k v.0 (chain_all _ S ws _ _ v.0.chain v.1) total e;
      widening = λ n set row care. widened_settled (good_around n set row) n care;
    }

-- Stories: the calls that one listing and its one register went through. Assumes nothing.
--
-- story: open, then waive, begin, next and reopen in any order that the types allow, refused calls among them; each call
--   takes the listing and the register as the call before left them, and lends the register's first k entries, for any k
-- N and S: the inputs and the solutions of one circuit; each next has a decider that means these
-- waivers: the cubes of the story's successful waives, in their order
-- list: the cubes that its nexts listed since the start or the last reopen, in their order, each as that next wrote it
use Rattle.std.specs.Prelude.{◌≡◌, ℕ, ◌^◌, ◌<◌, Bool, List, [], ◌∷◌, ◌++◌, take, drop, Ok, Err, slice_index_or}
use Rattle.std.proofs.Common.{mod-lt, lit<}
use Rattle.faults.specs.declared.listing.ListingFault.{ListingFault}
use Rattle.cubes.specs.declared.cube.Cube.{Cube}
use Rattle.cubes.specs.declared.entry.Entry.{Entry}
use Rattle.cubes.specs.Cubes.{care_of, value_of, blank}
use Rattle.listing.specs.declared.states.Draft.{Draft}
use Rattle.listing.specs.declared.states.Running.{Running}
use Rattle.listing.specs.declared.states.Finished.{Finished}
use Rattle.listing.specs.declared.states.Step.TheVariants.{Listed, Ended}
use Rattle.listing.specs.declared.states.Refusal.{Refusal}
use Rattle.listing.specs.Calls.{opened, waived, begun, nexted, reopened, entries}

-- a listing in one of its three states
pub data Listing : Type 0 where
  draft : Draft → Listing
  running : Running → Listing
  finished : Finished → Listing

-- the cube of an entry: the low 30 bits of its words
abbrev pub cube_of : Entry → Cube
cube_of e = record { care = care_of e; value = value_of e; numbers = (mod-lt e.care (lit< tt), mod-lt e.value (lit< tt)) }

-- the decider's set D has the solutions as its rows
abbrev pub Means : ℕ → (ℕ → Bool) → (ℕ → Bool) → Type 0
Means N S D = (r : ℕ) → r < 2 ^ N → D r ≡ S r

-- a story that has come to a listing, a register, waivers and a list; the last two it keeps itself
pub data Story (N : ℕ) (S : ℕ → Bool) : Listing → List Entry → List Cube → List Cube → Type 0 where
  opens : (mode n : ℕ) (d : Draft) (reg : List Entry) → opened mode n ≡ Ok d → Story N S (draft d) reg [] []
  waives : {d d' : Draft} {reg front : List Entry} {ws cs : List Cube} → Story N S (draft d) reg ws cs → (k : ℕ) (cube : Cube)
      → waived d (take k reg) cube ≡ (Ok tt, d', front) → Story N S (draft d') (front ++ drop k reg) (ws ++ cube ∷ []) cs
  waives_not : {d d' : Draft} {reg front : List Entry} {ws cs : List Cube} → Story N S (draft d) reg ws cs → (k : ℕ) (cube : Cube) (fault : ListingFault)
      → waived d (take k reg) cube ≡ (Err fault, d', front) → Story N S (draft d') (front ++ drop k reg) ws cs
  begins : {d : Draft} {reg : List Entry} {ws cs : List Cube} → Story N S (draft d) reg ws cs → Story N S (running (begun d)) reg ws cs
  lists : {l l' : Running} {reg front : List Entry} {ws cs : List Cube} → Story N S (running l) reg ws cs → (k : ℕ) (D : ℕ → Bool) → Means N S D
      → nexted l N D (take k reg) ≡ (Ok (Listed l'), front)
      → Story N S (running l') (front ++ drop k reg) ws (cs ++ cube_of (slice_index_or front (entries l) blank) ∷ [])
  ends : {l : Running} {f : Finished} {reg front : List Entry} {ws cs : List Cube} → Story N S (running l) reg ws cs → (k : ℕ) (D : ℕ → Bool) → Means N S D
      → nexted l N D (take k reg) ≡ (Ok (Ended f), front) → Story N S (finished f) (front ++ drop k reg) ws cs
  nexts_not : {l : Running} {reg front : List Entry} {ws cs : List Cube} → Story N S (running l) reg ws cs → (k : ℕ) (D : ℕ → Bool) → Means N S D
      → (refusal : Refusal) → nexted l N D (take k reg) ≡ (Err refusal, front) → Story N S (running refusal.listing) (front ++ drop k reg) ws cs
  reopens : {l : Running} {reg : List Entry} {ws cs : List Cube} → Story N S (running l) reg ws cs → Story N S (draft (reopened l)) reg ws []
  reopens_finished : {f : Finished} {reg : List Entry} {ws cs : List Cube} → Story N S (finished f) reg ws cs
      → Story N S (draft (reopened f.listing)) reg ws []

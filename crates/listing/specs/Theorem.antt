-- The main theorem, of every story and of every two. Assumes nothing.
--
-- of a story: S the solutions, ws the waivers, cs the list, d the draft that the listing was begun from, reg the register
-- unwaived: the solutions that no waiver of the story holds
-- Holds: cube number i of a list, from 0, holds the row
-- New: cube i newly covers the row: it holds it, and no earlier cube does
-- Only: every row of the list is an unwaived solution
-- Cover: every unwaived solution lies in at least one cube and, in mode 1, in exactly one
-- Tight: no input of a cube can be opened, each cube newly covers a row, and the smallest such rows rise down the list
-- Registered: the register begins with the story's waivers and its list, and the listing counts these
use Rattle.std.specs.Prelude.{◌≡◌, ℕ, ◌+◌, ◌-◌, ◌/◌, ◌%◌, ◌^◌, ◌<◌, ◌≤◌, Bool, true, false, ◌||◌, ◌⊎◌, ◌↔◌, List, [], ◌∷◌, ◌++◌, map, length, take, Ok, bit_and, slice_index_or}
use Rattle.cubes.specs.Rows.{count_below}
use Rattle.cubes.specs.declared.cube.Cube.{Cube}
use Rattle.cubes.specs.declared.entry.Entry.{Entry}
use Rattle.cubes.specs.Cubes.{within, holds, blank}
use Rattle.listing.specs.declared.mode.Mode.{Mode}
use Rattle.listing.specs.declared.mode.Mode.TheVariants.{Separate}
use Rattle.listing.specs.declared.states.Draft.{Draft}
use Rattle.listing.specs.declared.states.Finished.{Finished}
use Rattle.listing.specs.Widest.{without, good_around, widest, Settled}
use Rattle.listing.specs.Calls.{waiver_of, listed_of, totalled}
use Rattle.listing.specs.Stories.{Listing, draft, running, finished, cube_of, Story}

-- ---- lists of cubes

-- some cube of the list holds the row
abbrev pub in_some : List Cube → ℕ → Bool
in_some [] r = false
in_some (q ∷ qs) r = within q.care q.value r || in_some qs r

abbrev pub unwaived : (ℕ → Bool) → List Cube → ℕ → Bool
unwaived S ws = without S (in_some ws)

abbrev pub at : List Cube → ℕ → Cube
at cs i = slice_index_or cs i (cube_of blank)

abbrev pub Holds : ℕ → List Cube → ℕ → ℕ → Type 0
Holds n cs i r = (i < length cs) × (holds n (at cs i).care (at cs i).value r ≡ true)

abbrev pub New : ℕ → List Cube → ℕ → ℕ → Type 0
New n cs i r = Holds n cs i r × (in_some (take i cs) r ≡ false)

-- the smallest row that cube i newly covers
abbrev pub Smallest : ℕ → List Cube → ℕ → ℕ → Type 0
Smallest n cs i r = New n cs i r × ((s : ℕ) → New n cs i s → r ≤ s)

-- ---- what a list promises, in the mode and the number of inputs of its draft

abbrev pub Only : Draft → (ℕ → Bool) → List Cube → List Cube → Type 0
Only d S ws cs = (i r : ℕ) → Holds d.arity.inputs cs i r → unwaived S ws r ≡ true

abbrev pub Cover : Draft → (ℕ → Bool) → List Cube → List Cube → Type 0
Cover d S ws cs =
    (r : ℕ) → r < 2 ^ d.arity.inputs → unwaived S ws r ≡ true
    → (i : ℕ) × Holds d.arity.inputs cs i r × (d.mode ≡ Separate → (j : ℕ) → Holds d.arity.inputs cs j r → j ≡ i)

-- no solution, waived or, in mode 1, in one of the earlier cubes
abbrev pub Forbidden : Mode → (ℕ → Bool) → List Cube → List Cube → ℕ → Type 0
Forbidden mode S ws earlier r = (S r ≡ false) ⊎ ((in_some ws r ≡ true) ⊎ ((mode ≡ Separate) × (in_some earlier r ≡ true)))

pub record Tight (d : Draft) (S : ℕ → Bool) (ws cs : List Cube) : Type 0 where
  -- opening the input of bit b, where cube i fixes it, takes in a forbidden row
  pub wide : (i b : ℕ) → i < length cs → b < d.arity.inputs → ((at cs i).care / 2 ^ b) % 2 ≡ 1
      → (r : ℕ) × (holds d.arity.inputs ((at cs i).care - 2 ^ b) (bit_and (at cs i).value ((at cs i).care - 2 ^ b)) r ≡ true)
      × (Holds d.arity.inputs cs i r → ⊥) × Forbidden d.mode S ws (take i cs) r
  pub fresh : (i : ℕ) → i < length cs → (r : ℕ) × Smallest d.arity.inputs cs i r
  pub rises : (i j r s : ℕ) → i < j → Smallest d.arity.inputs cs i r → Smallest d.arity.inputs cs j s → r < s

-- there are at most so many unwaived solutions and, in mode 1, exactly so many
abbrev pub Counted : Draft → (ℕ → Bool) → List Cube → ℕ → Type 0
Counted d S ws total = (count_below (unwaived S ws) (2 ^ d.arity.inputs) ≤ total) × (d.mode ≡ Separate → count_below (unwaived S ws) (2 ^ d.arity.inputs) ≡ total)

-- ---- stories

abbrev pub draft_of : Listing → Draft
draft_of (draft d) = d
draft_of (running l) = l.draft
draft_of (finished f) = f.listing.draft

abbrev pub cubes_of : Listing → ℕ
cubes_of (draft d) = 0
cubes_of (running l) = l.cubes
cubes_of (finished f) = f.listing.cubes

pub record Registered (l : Listing) (reg : List Entry) (ws cs : List Cube) : Type 0 where
  pub waivers : (draft_of l).waivers ≡ length ws
  pub cubes : cubes_of l ≡ length cs
  pub entries : take (length ws + length cs) reg ≡ map waiver_of ws ++ map listed_of cs

abbrev pub EveryStory : (Draft → (ℕ → Bool) → List Cube → List Cube → Type 0) → Type 0
EveryStory P = (N : ℕ) (S : ℕ → Bool) (l : Listing) (reg : List Entry) (ws cs : List Cube) → Story N S l reg ws cs → P (draft_of l) S ws cs

abbrev pub EveryFinished : (Draft → (ℕ → Bool) → List Cube → List Cube → Type 0) → Type 0
EveryFinished P =
    (N : ℕ) (S : ℕ → Bool) (f : Finished) (reg : List Entry) (ws cs : List Cube) → Story N S (finished f) reg ws cs → P f.listing.draft S ws cs

pub record StoriesHold : Type 0 where
  pub only : EveryStory Only
  pub cover : EveryFinished Cover
  pub tight : EveryStory Tight
  -- two finished lists of one mode and number of inputs are equal exactly when the same solutions were left unwaived
  pub equal_lists : EveryFinished (λ d S ws cs. EveryFinished (λ d' S' ws' cs'. d.mode ≡ d'.mode → d.arity.inputs ≡ d'.arity.inputs
      → (cs ≡ cs') ↔ ((r : ℕ) → r < 2 ^ d.arity.inputs → unwaived S ws r ≡ unwaived S' ws' r)))
  pub registered : (N : ℕ) (S : ℕ → Bool) (l : Listing) (reg : List Entry) (ws cs : List Cube) → Story N S l reg ws cs → Registered l reg ws cs
  -- whichever front part of the register it is taken from
  pub totals : (N : ℕ) (S : ℕ → Bool) (f : Finished) (reg : List Entry) (ws cs : List Cube) → Story N S (finished f) reg ws cs
      → (k total : ℕ) → totalled f (take k reg) ≡ Ok total → Counted f.listing.draft S ws total
  -- what widening comes to, without its steps: the one care that is settled
  pub widening : (n : ℕ) (set : ℕ → Bool) (row care : ℕ) → (widest n set row ≡ care) ↔ Settled (good_around n set row) n care

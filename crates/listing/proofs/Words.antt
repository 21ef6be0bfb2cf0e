-- Cubes as entries of the register, and entries written in a front part of it.
use Rattle.std.proofs.Common.{◌≡◌, ℕ, ◌+◌, ◌%◌, ◌^◌, ◌<◌, ◌≤◌, List, [], ◌∷◌, ◌++◌, map, length, take, drop, set, refl, arith, take-append-drop, length-take, take-take}
use lib.Seq.{set-append_left}
use Rattle.std.proofs.lemmas.List.{drop-take}
use Rattle.cubes.specs.declared.cube.Cube.{Cube}
use Rattle.cubes.specs.declared.entry.Entry.{Entry}
use Rattle.cubes.specs.Cubes.{word, held}
use Rattle.listing.specs.Theorem.{in_some}

-- a word of any kind has its number in its low bits
pub word_low : (kind number : ℕ) → number < 2 ^ 30 → word kind number % 2 ^ 30 ≡ number
word_low kind number h = omega arith

-- a cube's entry of any kind
abbrev pub entry_of : ℕ → Cube → Entry
entry_of kind q = record { care = word kind q.care; value = word 3 q.value }

pub held_entries : (kind : ℕ) (qs : List Cube) (r : ℕ) → held (map (entry_of kind) qs) r ≡ in_some qs r
held_entries kind [] r = refl
held_entries kind (q ∷ qs) r =
    rw (word_low kind q.care q.numbers.0, word_low 3 q.value q.numbers.1, held_entries kind qs r) refl

-- ---- front parts

pub written : (k i : ℕ) (reg : List Entry) (e : Entry) → i < length (take k reg) → set (take k reg) i e ++ drop k reg ≡ set reg i e
written k i reg e h = rw (← set-append_left (take k reg) (drop k reg) i e h, take-append-drop) refl

pub front_waivers : (w c k : ℕ) (reg : List Entry) → w + c ≤ length (take k reg) → take w (take k reg) ≡ take w reg
front_waivers w c k reg h = take-take w k reg (omega (arith, length-take k reg))

pub front_cubes : (w c k : ℕ) (reg : List Entry) → w + c ≤ length (take k reg) → take c (drop w (take k reg)) ≡ take c (drop w reg)
front_cubes w c k reg h =
    let e = take-take (w + c) k reg (omega (arith, length-take k reg)) in rw (← drop-take w c (take k reg), e, drop-take w c reg) refl

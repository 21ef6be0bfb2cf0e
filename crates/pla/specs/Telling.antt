-- The laws of the text: it tells the list that it was written of, and each line the rows of its cube.
--   cube of n inputs   an entry whose value lies inside its care, and its care inside the n inputs
--   alike              as many cubes, alike in care and value place by place
--   matches            at each input the line has the row's bit, or -
-- Assumes nothing.
use Rattle.std.specs.Prelude.{◌≡◌, ℕ, ◌+◌, ◌-◌, ◌/◌, ◌%◌, ◌^◌, ◌<◌, ◌≤◌, true, ◌⊎◌, ◌↔◌, List, length, bit_and, slice_index, slice_index_or}
use Rattle.cubes.specs.declared.entry.Entry.{Entry}
use Rattle.cubes.specs.Cubes.{care_of, value_of, blank, holds}
use Rattle.listing.specs.Limits.{max_inputs}
use Rattle.pla.specs.Text.{line_of, text_of}

pub record CubeOf (n : ℕ) (entry : Entry) : Type 0 where
  pub inside : bit_and (value_of entry) (care_of entry) ≡ value_of entry
  pub below : care_of entry < 2 ^ n

abbrev pub CubesOf : ℕ → List Entry → Type 0
CubesOf n list = (i : ℕ) → i < length list → CubeOf n (slice_index_or list i blank)

abbrev pub AlikeAt : List Entry → List Entry → ℕ → Type 0
AlikeAt xs ys i = (care_of (slice_index_or xs i blank) ≡ care_of (slice_index_or ys i blank)) × (value_of (slice_index_or xs i blank) ≡ value_of (slice_index_or ys i blank))

abbrev pub Alike : List Entry → List Entry → Type 0
Alike xs ys = (length xs ≡ length ys) × ((i : ℕ) → i < length xs → AlikeAt xs ys i)

-- the character is -, or the bit itself
abbrev pub Fits : ℕ → ℕ → Type 0
Fits character bit = (character ≡ 45) ⊎ (character ≡ 48 + bit)

-- input i of n is bit n - i of the row
abbrev pub Matches : ℕ → List ℕ → ℕ → Type 0
Matches n line row = (i : ℕ) → 1 ≤ i → i ≤ n → Fits (slice_index line (i - 1)) (row / 2 ^ (n - i) % 2)

pub record TextTells : Type 0 where
  -- two texts are equal exactly when they are of as many inputs and of lists that are alike
  pub list : (n m : ℕ) (xs ys : List Entry) → n ≤ max_inputs → m ≤ max_inputs → CubesOf n xs → CubesOf m ys
      → (text_of n xs ≡ text_of m ys) ↔ ((n ≡ m) × Alike xs ys)
  -- a cube holds a row exactly when the row matches its line
  pub rows : (n : ℕ) (cube : Entry) (row : ℕ) → CubeOf n cube → row < 2 ^ n
      → (holds n (care_of cube) (value_of cube) row ≡ true) ↔ Matches n (line_of n cube) row

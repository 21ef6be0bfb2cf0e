-- The Berkeley PLA text of a list of cubes of n inputs.
--   position   what a cube has at an input: fixed to 0, fixed to 1, or open
--   line       bytes; in a text byte 10 ends each
--   head       the lines of the numbers of inputs, outputs and cubes
--   text       the head, a line for each cube in the list's order, and the line .e
--   memory     the bytes that a call is lent for the text
-- Assumes nothing.
use Rattle.std.specs.Prelude.{ℕ, zero, suc, ◌/◌, ◌%◌, ◌^◌, cond, List, [], ◌∷◌, ◌++◌, map, length, drop, Ok, Err, codes, decimal, Result, ◌==◌, nat_lt}
use Rattle.std.specs.List.{flat_map}
use Rattle.cubes.specs.declared.entry.Entry.{Entry}
use Rattle.cubes.specs.Cubes.{care_of, value_of}
use Rattle.faults.specs.declared.table.TableFault.{TableFault}
use Rattle.faults.specs.declared.table.TableFault.TheVariants.{TextShort}
use Rattle.pla.specs.declared.position.Position.{Position}
use Rattle.pla.specs.declared.position.Position.TheVariants.{Zero, One, Open}

abbrev pub character_of : Position → ℕ
character_of Zero = 48
character_of One = 49
character_of Open = 45

-- at the input of a bit; where it is open, the bit of value does not matter
abbrev pub position_at : ℕ → ℕ → ℕ → Position
position_at care value bit = cond (care / 2 ^ bit % 2 == 0) Open (cond (value / 2 ^ bit % 2 == 0) Zero One)

-- at inputs 1 to n: input 1 is the highest of the n bits
abbrev pub positions : ℕ → ℕ → ℕ → List Position
positions zero care value = []
positions (suc bit) care value = position_at care value bit ∷ positions bit care value

abbrev pub cube_line : ℕ → ℕ → ℕ → List ℕ
cube_line n care value = map character_of (positions n care value) ++ codes " 1"

-- of an entry, by the low 30 bits of its words
abbrev pub line_of : ℕ → Entry → List ℕ
line_of n entry = cube_line n (care_of entry) (value_of entry)

abbrev pub ended : List ℕ → List ℕ
ended line = line ++ 10 ∷ []

-- the lines before the cubes
abbrev pub head_lines : ℕ → ℕ → List (List ℕ)
head_lines n count = (codes ".i " ++ decimal n) ∷ codes ".o 1" ∷ (codes ".p " ++ decimal count) ∷ []

abbrev pub lines_of : ℕ → List Entry → List (List ℕ)
lines_of n cubes = head_lines n (length cubes) ++ (map (line_of n) cubes ++ codes ".e" ∷ [])

unfoldable pub text_of : ℕ → List Entry → List ℕ
text_of n cubes = flat_map ended (lines_of n cubes)

unfoldable pub head : ℕ → ℕ → List ℕ
head n count = flat_map ended (head_lines n count)

unfoldable pub cube_lines : ℕ → List Entry → List ℕ
cube_lines n cubes = flat_map ended (map (line_of n) cubes)

-- the length of the text, or the refusal of a memory that is too short; and the memory afterwards
abbrev pub written : ℕ → List Entry → List ℕ → Result ℕ TableFault × List ℕ
written n cubes memory =
    cond (nat_lt (length memory) (length (text_of n cubes))) (Err (TextShort (length (text_of n cubes))), memory)
    (Ok (length (text_of n cubes)), text_of n cubes ++ drop (length (text_of n cubes)) memory)

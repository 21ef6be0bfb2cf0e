-- The class of a byte, fixed for all 256 bytes. Assumes nothing.
--
--   class          what kind of byte it is: a digit (0), the blank (1), the newline (2), a small letter (3), a mark (4: any
--                  other byte that prints) or another byte (5)
--   within l h b   l ≤ b ≤ h
--   is x c         the class c is x
use Rattle.std.specs.Prelude.{ℕ, Bool, cond, ◌&&◌, ◌==◌, nat_le}
use Rattle.text.specs.declared.classes.Class.{Class}
use Rattle.text.specs.declared.classes.Class.TheVariants.{Digit, Blank, Newline, Letter, Mark, Other}

-- numbers, no plainer without: by them one test of two classes is computed at each entry of the table
abbrev pub class_number : Class → ℕ
class_number Digit = 0
class_number Blank = 1
class_number Newline = 2
class_number Letter = 3
class_number Mark = 4
class_number Other = 5

abbrev pub is : Class → Class → Bool
is x c = class_number x == class_number c

abbrev pub within : ℕ → ℕ → ℕ → Bool
within low high b = nat_le low b && nat_le b high

-- 48 to 57, 32, 10, 97 to 122, the others from 33 to 126, the rest
abbrev pub class_of : ℕ → Class
class_of b =
    cond (within 48 57 b) Digit (cond (b == 32) Blank (cond (b == 10) Newline (cond (within 97 122 b) Letter (cond (within 33 126 b) Mark Other))))

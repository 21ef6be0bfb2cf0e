-- The number at a place of a file. Assumes nothing.
--
--   run         the longest run of digits from a place on
--   fair        a run of one to five digits, with no 0 before another
--   number_at   the value of the run at a place and the place after it; no digit is a misfit at the place, and a run that
--               is not fair is a bad number there
use Rattle.std.specs.Prelude.{ℕ, ◌+◌, ◌-◌, ◌*◌, ◌<◌, ◌≤◌, Bool, cond, not, ◌&&◌, ◌||◌, List, [], ◌∷◌, length, drop, Ok, Err, Result, ◌==◌, nat_le, slice_index}
use Rattle.faults.specs.declared.text.TextFault.{TextFault}
use Rattle.faults.specs.declared.text.TextFault.TheVariants.{Misfit, BadNumber}
use Rattle.text.specs.Classes.{within}

abbrev pub max_digits : ℕ
max_digits = 5

abbrev pub is_digit : ℕ → Bool
is_digit b = within 48 57 b

-- each byte is a digit
abbrev pub AllDigits : List ℕ → Type 0
AllDigits ds = (k : ℕ) → k < length ds → (48 ≤ slice_index ds k) × (slice_index ds k ≤ 57)

-- the run at the front of a list of bytes
abbrev pub digits : List ℕ → List ℕ
digits [] = []
digits (b ∷ bs) = cond (is_digit b) (b ∷ digits bs) []

-- the value of a run that goes on after digits of value n
abbrev pub decimal : ℕ → List ℕ → ℕ
decimal n [] = n
decimal n (b ∷ bs) = decimal (n * 10 + (b - 48)) bs

-- a run of n digits, the first of which is d
abbrev pub fair : ℕ → ℕ → Bool
fair d n = nat_le n max_digits && (not (d == 48) || n == 1)

abbrev pub judged : ℕ → List ℕ → Result (ℕ × ℕ) TextFault
judged at ds =
    cond (length ds == 0) (Err (Misfit at))
    (cond (fair (slice_index ds 0) (length ds)) (Ok (decimal 0 ds, at + length ds)) (Err (BadNumber at)))

abbrev pub number_at : List ℕ → ℕ → Result (ℕ × ℕ) TextFault
number_at bs at = judged at (digits (drop at bs))

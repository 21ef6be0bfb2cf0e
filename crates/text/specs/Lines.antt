-- Lines of numbers: numbers parted by one blank, and a newline. Assumes nothing.
--
--   place           a byte's offset from the start of the file, from 0; each answer ends with the place after what was read
--   expect_at       the byte that is due at a place, or a misfit there
--   item_at         a number and the byte that is due after it
--   numbers_at      a number, so many more of them, and the newline
--   word_at         the word aag and a blank, at the start of the file
--   header_at       the word and five numbers
use Rattle.std.specs.Prelude.{ℕ, zero, suc, ◌+◌, cond, ◌&&◌, List, [], ◌∷◌, length, Ok, Err, Result, ◌==◌, nat_lt, slice_index}
use Rattle.faults.specs.declared.text.TextFault.{TextFault}
use Rattle.faults.specs.declared.text.TextFault.TheVariants.{Misfit}
use Rattle.text.specs.Runs.{next}
use Rattle.text.specs.Numbers.{number_at}

abbrev pub expect_at : List ℕ → ℕ → ℕ → Result ℕ TextFault
expect_at bs p b = cond (nat_lt p (length bs) && slice_index bs p == b) (Ok (p + 1)) (Err (Misfit p))

abbrev pub item_at : List ℕ → ℕ → ℕ → Result (ℕ × ℕ) TextFault
item_at bs p b = next (number_at bs p) (λ v. next (expect_at bs v.1 b) (λ end. Ok (v.0, end)))

abbrev pub numbers_at : List ℕ → ℕ → ℕ → Result (List ℕ × ℕ) TextFault
numbers_at bs p zero = next (item_at bs p 10) (λ v. Ok (v.0 ∷ [], v.1))
numbers_at bs p (suc more) = next (item_at bs p 32) (λ v. next (numbers_at bs v.1 more) (λ vs. Ok (v.0 ∷ vs.0, vs.1)))

abbrev pub word_at : List ℕ → Result ℕ TextFault
word_at bs = next (expect_at bs 0 97) (λ p. next (expect_at bs p 97) (λ q. next (expect_at bs q 103) (λ r. expect_at bs r 32)))

abbrev pub header_at : List ℕ → Result (List ℕ × ℕ) TextFault
header_at bs = next (word_at bs) (λ p. numbers_at bs p 4)

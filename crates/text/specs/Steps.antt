-- The machine that reads a line of numbers, byte by byte. Assumes nothing. (Lines has the same answers item by item.)
--
--   due          where in the line the machine stands: at byte k of the word aag, at the blank before number k, at number k,
--                at the newline, or after it; a line's last number is number 4, and a shorter line begins at a later one
--   fits         the class that is due in each state; every other class is a misfit
--   step_of      what the byte where the machine stands does, or the number that begins there
--   fresh        the machine at the start of a line
use Rattle.std.specs.Prelude.{ℕ, ◌+◌, Bool, true, false, cond, List, length, replicate, Ok, Err, Result, ◌==◌, nat_lt, slice_index, slice_set}
use Rattle.faults.specs.declared.text.TextFault.{TextFault}
use Rattle.faults.specs.declared.text.TextFault.TheVariants.{Misfit}
use Rattle.text.specs.Classes.{class_of, is}
use Rattle.text.specs.Numbers.{number_at}
use Rattle.text.specs.Runs.{next}
use Rattle.text.specs.declared.classes.Class.{Class}
use Rattle.text.specs.declared.classes.Class.TheVariants.{Digit, Blank, Newline, Letter}
use Rattle.text.specs.declared.line_machine.Due.{Due}
use Rattle.text.specs.declared.line_machine.Due.TheVariants.{Word, Gap, Number, End, Ended}
use Rattle.text.specs.declared.line_machine.LineMachine.{LineMachine}

abbrev pub fits : Due → Class → Bool
fits (Word k) c = is Letter c
fits (Gap k) c = is Blank c
fits (Number k) c = is Digit c
fits End c = is Newline c
fits Ended c = false

-- one byte on
abbrev pub on_to : LineMachine → Due → LineMachine
on_to m s = record { due = s; at = m.at + 1; values = m.values }

-- byte k of the word
abbrev pub spelt : LineMachine → ℕ → ℕ → Result LineMachine TextFault
spelt m k b =
    cond (nat_lt k 2) (cond (b == 97) (Ok (on_to m (Word (k + 1)))) (Err (Misfit m.at)))
    (cond (b == 103) (Ok (on_to m (Gap 0))) (Err (Misfit m.at)))

-- number k
abbrev pub counted : List ℕ → LineMachine → ℕ → Result LineMachine TextFault
counted bs m k =
    next (number_at bs m.at) (λ v. cond (nat_lt k 4) (Ok (record { due = Gap (k + 1); at = v.1; values = slice_set m.values k v.0 }))
    (Ok (record { due = End; at = v.1; values = slice_set m.values 4 v.0 })))

-- what a byte of the class that is due does
abbrev pub taken : List ℕ → LineMachine → Due → ℕ → Result LineMachine TextFault
taken bs m (Word k) b = spelt m k b
taken bs m (Gap k) b = Ok (on_to m (Number k))
taken bs m (Number k) b = counted bs m k
taken bs m End b = Ok (on_to m Ended)
taken bs m Ended b = Err (Misfit m.at)

abbrev pub step_by : List ℕ → LineMachine → Due → ℕ → Result LineMachine TextFault
step_by bs m s b = cond (fits s (class_of b)) (taken bs m s b) (Err (Misfit m.at))

-- where the file has ended it is a misfit
abbrev pub step_of : List ℕ → LineMachine → Result LineMachine TextFault
step_of bs m = cond (nat_lt m.at (length bs)) (step_by bs m m.due (slice_index bs m.at)) (Err (Misfit m.at))

abbrev pub ended : Due → Bool
ended (Word k) = false
ended (Gap k) = false
ended (Number k) = false
ended End = false
ended Ended = true

abbrev pub is_ended : LineMachine → Bool
is_ended m = ended m.due

-- the numbers of a line that has ended and the place after it, or the misfit where the file ends early
abbrev pub end_of : LineMachine → Result (List ℕ × ℕ) TextFault
end_of m = cond (is_ended m) (Ok (m.values, m.at)) (Err (Misfit m.at))

abbrev pub fresh : Due → ℕ → LineMachine
fresh s p = record { due = s; at = p; values = replicate 5 0 }

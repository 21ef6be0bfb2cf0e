-- The symbol lines: what a byte does to the machine, and where the machine stops. Assumes nothing.
--
--   symbol line   i (of an input) or o (of the output), a position, a blank, a name, a newline
--   state         where in the line the machine stands: at its start, at the position, at the blank after it, in the name
--                 after so many bytes of it; behind the c of the comment, or done
--   slot          the place of a letter and a position among the marks of those already seen
--   free          the slot, if no line before marked it
--   NoSlot        the fault of a position that is too large or whose slot is marked; refused_at gives a fault its line
--   step_of       what the byte where the machine stands does, or the position that begins there
use Rattle.std.specs.Prelude.{ℕ, ◌+◌, Bool, true, false, cond, List, length, replicate, Some, None, Ok, Err, Option, Result, ◌==◌, nat_le, nat_lt, slice_index, slice_index_or, slice_set}
use Rattle.std.specs.Result.{result_map_both}
use Rattle.circuit.specs.Limits.{max_inputs}
use Rattle.faults.specs.declared.circuit.Rule.TheVariants.{SymbolPosition}
use Rattle.faults.specs.declared.circuit.CircuitFault.{CircuitFault}
use Rattle.faults.specs.declared.circuit.CircuitFault.TheVariants.{Text as CircuitText, Broken}
use Rattle.faults.specs.declared.text.TextFault.TheVariants.{Misfit}
use Rattle.text.specs.declared.classes.Class.{Class}
use Rattle.text.specs.declared.classes.Class.TheVariants.{Digit, Blank, Newline, Letter as SmallLetter, Mark, Other}
use Rattle.text.specs.Classes.{class_of, is}
use Rattle.text.specs.Numbers.{number_at}
use Rattle.text.specs.Places.{line_of}
use Rattle.text.specs.Runs.{run_of}
use Rattle.aiger.specs.FaultLines.{located_at}
use Rattle.aiger.specs.Lines.{up}
use Rattle.aiger.specs.declared.states.Letter.{Letter}
use Rattle.aiger.specs.declared.states.Letter.TheVariants.{Input, Output}
use Rattle.aiger.specs.declared.states.State.{State}
use Rattle.aiger.specs.declared.states.State.TheVariants.{Start, Position, Gap, Name, Comment, Done}
use Rattle.aiger.specs.declared.states.SymbolFault.{SymbolFault}
use Rattle.aiger.specs.declared.states.SymbolFault.TheVariants.{Text, NoSlot}
use Rattle.aiger.specs.declared.symbols.SymbolMachine.{SymbolMachine}

-- the most bytes of a name
abbrev pub max_name : ℕ
max_name = 64

-- a mark for each input, and one for the output
abbrev pub slots : ℕ
slots = max_inputs + 1

-- the classes of a name's bytes
abbrev pub nameable : Class → Bool
nameable Digit = true
nameable Blank = true
nameable Newline = false
nameable SmallLetter = true
nameable Mark = true
nameable Other = false

-- nothing where the position is too large for n inputs and one output
abbrev pub slot_of : Letter → ℕ → ℕ → Option ℕ
slot_of Input p n = cond (nat_lt p n) (Some p) None
slot_of Output p n = cond (p == 0) (Some max_inputs) None

-- a slot that is not marked yet
abbrev pub free : List Bool → Option ℕ → Option ℕ
free seen None = None
free seen (Some s) = cond (slice_index_or seen s false) None (Some s)

-- one byte on
abbrev pub moved : SymbolMachine → State → SymbolMachine
moved m s = record { state = s; at = m.at + 1; inputs = m.inputs; seen = m.seen }

-- the byte misfits
abbrev pub misfit_of : SymbolMachine → SymbolFault
misfit_of m = Text (Misfit m.at)

abbrev pub off : SymbolMachine → Result SymbolMachine SymbolFault
off m = Err (misfit_of m)

-- a line begins
abbrev pub starts : SymbolMachine → ℕ → Result SymbolMachine SymbolFault
starts m b =
    cond (b == 105) (Ok (moved m (Position Input)))
    (cond (b == 111) (Ok (moved m (Position Output)))
    (cond (b == 99) (Ok (moved m Comment)) (off m)))

-- a position
abbrev pub placed : List ℕ → SymbolMachine → Letter → Result SymbolMachine SymbolFault
placed bs m l = up Text (number_at bs m.at) (λ v. Ok (record { state = Gap l v.0; at = v.1; inputs = m.inputs; seen = m.seen }))

-- a name of n bytes goes on
abbrev pub longer : SymbolMachine → Letter → ℕ → ℕ → Result SymbolMachine SymbolFault
longer m l p n = cond (nat_le max_name n) (off m) (Ok (moved m (Name l p (n + 1))))

-- the line ends: its slot is marked
abbrev pub marked : SymbolMachine → Option ℕ → Result SymbolMachine SymbolFault
marked m None = Err (NoSlot m.at)
marked m (Some s) = Ok (record { state = Start; at = m.at + 1; inputs = m.inputs; seen = slice_set m.seen s true })

-- a name of n bytes ends
abbrev pub named : SymbolMachine → Letter → ℕ → ℕ → Result SymbolMachine SymbolFault
named m l p n = cond (n == 0) (off m) (marked m (free m.seen (slot_of l p m.inputs)))

-- what a byte b of class c does, by where the machine stands
abbrev pub step_by : List ℕ → SymbolMachine → State → Class → ℕ → Result SymbolMachine SymbolFault
step_by bs m Start c b = cond (is SmallLetter c) (starts m b) (off m)
step_by bs m (Position l) c b = cond (is Digit c) (placed bs m l) (off m)
step_by bs m (Gap l p) c b = cond (is Blank c) (Ok (moved m (Name l p 0))) (off m)
step_by bs m (Name l p n) c b = cond (is Newline c) (named m l p n) (cond (nameable c) (longer m l p n) (off m))
step_by bs m Comment c b = cond (is Newline c) (Ok (moved m Done)) (off m)
step_by bs m Done c b = off m

-- where the file has ended it is a misfit
abbrev pub step_of : List ℕ → SymbolMachine → Result SymbolMachine SymbolFault
step_of bs m = cond (nat_lt m.at (length bs)) (step_by bs m m.state (class_of (slice_index bs m.at)) (slice_index bs m.at)) (off m)

abbrev pub is_done : State → Bool
is_done Start = false
is_done (Position l) = false
is_done (Gap l p) = false
is_done (Name l p n) = false
is_done Comment = false
is_done Done = true

abbrev pub is_over : SymbolMachine → Bool
is_over m = is_done m.state

-- whether the file may end where the machine stands
abbrev pub may_end : State → Bool
may_end Start = true
may_end (Position l) = false
may_end (Gap l p) = false
may_end (Name l p n) = false
may_end Comment = false
may_end Done = true

abbrev pub end_of : SymbolMachine → Result (Unit {0}) SymbolFault
end_of m = cond (may_end m.state) (Ok tt) (Err (misfit_of m))

abbrev pub first : ℕ → ℕ → SymbolMachine
first p n = record { state = Start; at = p; inputs = n; seen = replicate slots false }

-- a fault of the machine, with its line
abbrev pub refused_at : List ℕ → SymbolFault → CircuitFault
refused_at bs (Text e) = CircuitText (located_at bs e)
refused_at bs (NoSlot place) = Broken SymbolPosition (line_of bs place)

-- the symbol lines from place p on, of a circuit of n inputs, up to the end of the file
abbrev pub symbols_at : List ℕ → ℕ → ℕ → Result (Unit {0}) CircuitFault
symbols_at bs p n = result_map_both (λ u. u) (refused_at bs) (run_of is_over (λ m. m.at) step_of end_of bs (first p n))

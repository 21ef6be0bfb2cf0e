-- Files in one run of bytes, a line of three numbers before each. Assumes nothing.
--
--   Parts                what a frame has: its number, its file and its room
--   first_frame bs       the parts of the frame at the front, and the bytes behind it
--   next_frame bs        the frame that the reader gives next, and the bytes left: none of no bytes, and none left after a fault
use Rattle.std.specs.Prelude.{◌≡◌, ℕ, cond, List, [], ◌∷◌, length, take, drop, nat_le, slice_index, Option, Some, None, Result, Ok, Err}
use Rattle.std.specs.Borrow.{Bor}
use Rattle.faults.specs.declared.text.TextFault.{TextFault}
use Rattle.text.specs.Lines.{numbers_at}
use Rattle.frames.specs.declared.Frame.{Frame}
use Rattle.frames.specs.declared.FrameFault.{FrameFault}
use Rattle.frames.specs.declared.FrameFault.TheVariants.{Line, File}

abbrev pub Parts : Type 0
Parts = ℕ × List ℕ × ℕ

abbrev pub Split : Type 0
Split = Result (Parts × List ℕ) FrameFault

-- the file of so many bytes at the front
abbrev pub cut : ℕ → ℕ → ℕ → List ℕ → Split
cut number size room bs = cond (nat_le size (length bs)) (Ok ((number, take size bs, room), drop size bs)) (Err File)

abbrev pub behind : Result (List ℕ × ℕ) TextFault → List ℕ → Split
behind (Ok line) bs = cut (slice_index line.0 0) (slice_index line.0 1) (slice_index line.0 2) (drop line.1 bs)
behind (Err e) bs = Err Line

abbrev pub first_frame : List ℕ → Split
first_frame bs = behind (numbers_at bs 0 2) bs

abbrev pub step_of : Split → Option (Result Parts FrameFault) × List ℕ
step_of (Ok s) = (Some (Ok s.0), s.1)
step_of (Err e) = (Some (Err e), [])

abbrev pub next_frame : List ℕ → Option (Result Parts FrameFault) × List ℕ
next_frame [] = (None, [])
next_frame (b ∷ bs) = step_of (first_frame (b ∷ bs))

-- the parts of what the reader gave

abbrev pub frame_parts : Frame → Parts
frame_parts f = (f.number, f.file.now, f.room)

abbrev pub parts : Result (Frame × Bor (List ℕ)) FrameFault → Split
parts (Ok s) = Ok (frame_parts s.0, s.1.now)
parts (Err e) = Err e

abbrev pub given : Option (Result Frame FrameFault) → Option (Result Parts FrameFault)
given None = None
given (Some (Ok f)) = Some (Ok (frame_parts f))
given (Some (Err e)) = Some (Err e)

abbrev pub TakesFrame : List ℕ → Option (Result Frame FrameFault) → List ℕ → Type 0
TakesFrame bs r rest = (given r, rest) ≡ next_frame bs

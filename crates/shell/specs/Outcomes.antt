-- What a job with memory of its own gives.
--   said   the text is that of the list of the file's circuit, or the refusal is due
--   blank  text memory as it is allocated: zeros
--   answer the text of the list, or the refusal
-- Assumes nothing.
use Rattle.std.specs.Prelude.{ℕ, List, take, replicate, Ok, Err, Result, Vec, vec_items}
use Rattle.faults.specs.declared.job.JobFault.{JobFault}
use Rattle.jobs.specs.Lists.{Outcome, list_of}
use Rattle.jobs.specs.Sizes.{enough, blank_register, text_bytes}
use Rattle.jobs.specs.Suffices.{Due}
use Rattle.jobs.specs.Told.{Told}

-- with memory of its own a job is refused for the file or the mode, or for more cubes than there are entries
abbrev pub Said : {Z : Type 0} → List ℕ → ℕ → Result (Vec ℕ Z) JobFault → Type 0
Said file mode (Ok v) = Told file enough.gate_table mode (vec_items v)
Said file mode (Err refusal) = Due refusal.fault

-- ---- by a defined value

-- the text memory as it is allocated
abbrev pub blank_text : List ℕ
blank_text = replicate text_bytes 0

-- the text of the list, or the refusal
abbrev pub answer_of : {Z : Type 0} → Result (Vec ℕ Z) JobFault → Result (List ℕ) JobFault
answer_of (Ok v) = Ok (vec_items v)
answer_of (Err fault) = Err fault

-- the text that the job leaves in the text memory, or its refusal
abbrev pub answer_in : Outcome → Result (List ℕ) JobFault
answer_in (Ok size, text) = Ok (take size text)
answer_in (Err fault, text) = Err fault

abbrev pub worked : List ℕ → ℕ → Result (List ℕ) JobFault
worked file mode = answer_in (list_of file mode enough blank_register blank_text)

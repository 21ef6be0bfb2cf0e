-- What the exported call gives: a job's outcome in numbers that C can read.
--   answer     the length of the text and the refusal's place, number, layer, line and stage; what is missing is 0
--   answered   the result, the answer and the text memory afterwards; the result is 0 or the refusal's number
-- Assumes nothing.
use Rattle.std.specs.Prelude.{◌≡◌, ℕ, ◌≤◌, ◌⊎◌, List, Ok, Err, Result}
use Rattle.faults.specs.declared.circuit.CircuitFault.{CircuitFault}
use Rattle.faults.specs.declared.job.Fault.TheVariants.{Circuit as OfCircuit}
use Rattle.faults.specs.declared.job.JobFault.{JobFault}
use Rattle.faults.specs.declared.job.Stage.{Stage}
use Rattle.faults.specs.declared.job.Stage.TheVariants.{Reading, Deciding, Listing as ListingStage}
use Rattle.faults.specs.declared.report.Layer.{Layer}
use Rattle.faults.specs.declared.report.Layer.TheVariants.{Text, Circuit, Listing, Table}
use Rattle.faults.specs.declared.report.Report.{Report}
use Rattle.faults.specs.Reports.{report_of}
use Rattle.jobs.specs.Lists.{Outcome, at_reading}
use Rattle.jobs.specs.Sizes.{enough}
use Rattle.jobs.specs.Told.{SaysOf}
use Rattle.capi.specs.declared.answer.Answer.{Answer}

abbrev pub layer_code : Layer → ℕ
layer_code Text = 0
layer_code Circuit = 1
layer_code Listing = 2
layer_code Table = 3

abbrev pub stage_code : Stage → ℕ
stage_code Reading = 0
stage_code Deciding = 1
stage_code ListingStage = 2

abbrev pub succeeded : ℕ → Answer
succeeded length = record { length = length; place = 0; number = 0; layer = 0; line = 0; stage = 0 }

abbrev pub refused_as : Report → Stage → Answer
refused_as report stage =
    record { length = 0; place = report.place; number = report.number; layer = layer_code report.layer; line = report.line; stage = stage_code stage }

abbrev pub refused : JobFault → Answer
refused job = refused_as (report_of job.fault) job.stage

abbrev pub answer_of : Result ℕ JobFault → Answer
answer_of (Ok length) = succeeded length
answer_of (Err fault) = refused fault

abbrev pub answered : Outcome → ℕ × Answer × List ℕ
answered outcome = ((answer_of outcome.0).number, answer_of outcome.0, outcome.1)

-- 0, or a refusal of the file (but for its gate table), of the mode, or of a list of more cubes than there are entries
abbrev pub DueNumber : ℕ → Type 0
DueNumber n = ((n ≤ 15) × (n ≡ 9 → ⊥)) ⊎ (n ≡ 18)

-- an answer that refuses the file while reading is of a fault that says the truth of it
abbrev pub OfTruth : List ℕ → Answer → Type 0
OfTruth file answer = (answer.number ≡ 0 → ⊥) → answer.stage ≡ stage_code Reading → (fault : CircuitFault) × (answer ≡ refused (at_reading fault)) × SaysOf file enough.gate_table (OfCircuit fault)

-- and every such fault is answered
pub record Truthful (file : List ℕ) (answer : Answer) : Type 0 where
  pub says : OfTruth file answer
  pub tells : (fault : CircuitFault) → SaysOf file enough.gate_table (OfCircuit fault) → answer ≡ refused (at_reading fault)

-- The numbers of a refusal say the truth of the file as the refusal does. Assumes nothing.
use Rattle.std.proofs.Common.{◌≡◌, ℕ, List, Ok, Err, Result, refl, ap}
use Rattle.faults.specs.declared.job.Fault.{Fault}
use Rattle.faults.specs.declared.job.Fault.TheVariants.{Circuit, Table, Listing}
use Rattle.faults.specs.declared.job.JobFault.{JobFault}
use Rattle.faults.specs.declared.job.Stage.{Stage}
use Rattle.faults.specs.declared.job.Stage.TheVariants.{Reading, Deciding, Listing as ListingStage}
use Rattle.jobs.specs.Sizes.{enough}
use Rattle.jobs.specs.Told.{SaysOf, Refusals}
use Rattle.capi.specs.Answers.{OfTruth, Truthful, refused, answer_of}

of_fault : (file : List ℕ) (fault : Fault) (stage : Stage) → (stage ≡ Reading → SaysOf file enough.gate_table fault) → OfTruth file (refused (record { fault = fault; stage = stage }))
of_fault file (Circuit e) Reading says some read = (e, refl, says refl)
of_fault file (Table e) Reading says some read = absurd (says refl)
of_fault file (Listing e) Reading says some read = absurd (says refl)
of_fault file fault Deciding says some read = cc
of_fault file fault ListingStage says some read = cc

of_answer : (file : List ℕ) (r : Result ℕ JobFault) → Refusals file enough.gate_table r → OfTruth file (answer_of r)
of_answer file (Ok length) refusals = λ some read. absurd (some refl)
of_answer file (Err job) refusals = of_fault file job.fault job.stage (refusals.says job refl)

pub truthful : (file : List ℕ) (r : Result ℕ JobFault) → Refusals file enough.gate_table r → Truthful file (answer_of r)
truthful file r refusals = record { says = of_answer file r refusals; tells = λ fault true_of. ap answer_of (refusals.tells fault true_of) }

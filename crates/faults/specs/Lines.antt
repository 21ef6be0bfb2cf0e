-- The line that a program prints of a refusal: `refused`, number, layer, place, line and stage.
--   stage   what the job was doing: reading the file, making the decider, or listing
-- Assumes nothing.
use Rattle.std.specs.Prelude.{ℕ, List, ◌++◌, codes, decimal}
use Rattle.faults.specs.Reports.{report_of}
use Rattle.faults.specs.declared.report.Layer.{Layer}
use Rattle.faults.specs.declared.report.Layer.TheVariants.{Text, Circuit, Listing, Table}
use Rattle.faults.specs.declared.report.Report.{Report}
use Rattle.faults.specs.declared.job.Stage.{Stage}
use Rattle.faults.specs.declared.job.Stage.TheVariants.{Reading, Deciding, Listing as ListingStage}
use Rattle.faults.specs.declared.job.JobFault.{JobFault}

abbrev pub layer_name : Layer → List ℕ
layer_name Text = codes "text"
layer_name Circuit = codes "circuit"
layer_name Listing = codes "listing"
layer_name Table = codes "table"

abbrev pub stage_name : Stage → List ℕ
stage_name Reading = codes "reading"
stage_name Deciding = codes "deciding"
stage_name ListingStage = codes "listing"

-- words parted by blanks
abbrev pub refusal_of : Report → Stage → List ℕ
refusal_of report stage =
    codes "refused " ++ (decimal report.number ++ (codes " " ++ (layer_name report.layer ++ (codes " " ++ (decimal report.place ++ (codes " " ++ (decimal report.line ++ (codes " " ++ stage_name stage))))))))

abbrev pub refusal_line : JobFault → List ℕ
refusal_line job = refusal_of (report_of job.fault) job.stage

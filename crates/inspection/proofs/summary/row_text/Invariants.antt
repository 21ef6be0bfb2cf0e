use Rattle.std.proofs.Common.{◌≡◌, ◌++◌, string_bytes}
use Rattle.inspection.specs.Rows.{row_text}
use Rattle.inspection.proofs.summary.row_text.Given as goal

-- what is written, and then the places that are left, are the whole row
abbrev pub invariant-loop-place : goal.invariant-loop-place
invariant-loop-place l = string_bytes l.text ++ row_text l.place l.row ≡ row_text l.inputs l.row

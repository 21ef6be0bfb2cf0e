-- A refusal that is due has a number that is. Assumes nothing.
use Rattle.std.proofs.Common.{ℕ, refl, inl, inr, ⊎_elim, IfErr, Ok, Err, Result, arith}
use Rattle.faults.specs.Reports.{text_report, report_of}
use Rattle.faults.specs.declared.circuit.CircuitFault.TheVariants.{Text, Broken}
use Rattle.faults.specs.declared.circuit.Rule.TheVariants.{InputCount, LatchCount, OutputCount, GateCount, HighestVariable, GateTable, InputLine, OutputLiteral, GateLiteral, Operand, SymbolPosition}
use Rattle.faults.specs.declared.job.Fault.{Fault}
use Rattle.faults.specs.declared.job.Fault.TheVariants.{Circuit, Table, Listing}
use Rattle.faults.specs.declared.job.JobFault.{JobFault}
use Rattle.faults.specs.declared.text.TextFault.{TextFault}
use Rattle.faults.specs.declared.text.TextFault.TheVariants.{TooLong, Misfit, BadNumber}
use Rattle.jobs.specs.Suffices.{Due}
use Rattle.capi.specs.Answers.{DueNumber, answer_of}

of_text : (fault : TextFault) (line : ℕ) → DueNumber (text_report fault line).number
of_text TooLong line = inl (omega arith, λ e. cc)
of_text (Misfit place) line = inl (omega arith, λ e. cc)
of_text (BadNumber place) line = inl (omega arith, λ e. cc)

pub number_due : (fault : Fault) → Due fault → DueNumber (report_of fault).number
number_due (Circuit (Text located)) d = of_text located.fault located.line
number_due (Circuit (Broken InputCount line)) d = inl (omega arith, λ e. cc)
number_due (Circuit (Broken LatchCount line)) d = inl (omega arith, λ e. cc)
number_due (Circuit (Broken OutputCount line)) d = inl (omega arith, λ e. cc)
number_due (Circuit (Broken GateCount line)) d = inl (omega arith, λ e. cc)
number_due (Circuit (Broken HighestVariable line)) d = inl (omega arith, λ e. cc)
number_due (Circuit (Broken GateTable line)) d = absurd (d (line, refl))
number_due (Circuit (Broken InputLine line)) d = inl (omega arith, λ e. cc)
number_due (Circuit (Broken OutputLiteral line)) d = inl (omega arith, λ e. cc)
number_due (Circuit (Broken GateLiteral line)) d = inl (omega arith, λ e. cc)
number_due (Circuit (Broken Operand line)) d = inl (omega arith, λ e. cc)
number_due (Circuit (Broken SymbolPosition line)) d = inl (omega arith, λ e. cc)
number_due (Listing e) d = ⊎_elim (λ is. rw is (inl (omega arith, λ e. cc))) (λ is. rw is (inr refl)) d
number_due (Table e) d = absurd d

pub answer_due : (r : Result ℕ JobFault) → IfErr r (λ refusal. Due refusal.fault) → DueNumber (answer_of r).number
answer_due (Ok length) d = inl (omega arith, λ e. cc)
answer_due (Err job) d = number_due job.fault d

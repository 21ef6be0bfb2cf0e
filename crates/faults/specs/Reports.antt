-- What is told of each fault: its number, the layer that refuses, the place there and the line of the file.
--   place   the text layer's: a byte of the file, from 0; the circuit's: a line of the file, from 1;
--           the listing's: the entries held; the table's: the number needed, or the number of inputs
--   line    from 1; 0 where a fault has none
-- Assumes nothing.
use Rattle.std.specs.Prelude.{ℕ, cond, nat_le}
use Rattle.faults.specs.declared.text.TextFault.{TextFault}
use Rattle.faults.specs.declared.text.TextFault.TheVariants.{TooLong, Misfit, BadNumber}
use Rattle.faults.specs.declared.circuit.Rule.{Rule}
use Rattle.faults.specs.declared.circuit.Rule.TheVariants.{InputCount, LatchCount, OutputCount, GateCount, HighestVariable, GateTable, InputLine, OutputLiteral, GateLiteral, Operand, SymbolPosition}
use Rattle.faults.specs.declared.circuit.CircuitFault.{CircuitFault}
use Rattle.faults.specs.declared.circuit.CircuitFault.TheVariants.{Text, Broken}
use Rattle.faults.specs.declared.listing.ListingFault.{ListingFault}
use Rattle.faults.specs.declared.listing.ListingFault.TheVariants.{Mode, InputCount as Inputs, Waiver, RegisterFull, RegisterShort, DeciderInputs}
use Rattle.faults.specs.declared.table.TableFault.{TableFault}
use Rattle.faults.specs.declared.table.TableFault.TheVariants.{TooManyInputs, BitsShort, ValuesShort, TextShort}
use Rattle.faults.specs.declared.job.Fault.{Fault}
use Rattle.faults.specs.declared.job.Fault.TheVariants.{Circuit, Listing, Table}
use Rattle.faults.specs.declared.report.Layer.{Layer}
use Rattle.faults.specs.declared.report.Layer.TheVariants.{Text as TextLayer, Circuit as CircuitLayer, Listing as ListingLayer, Table as TableLayer}
use Rattle.faults.specs.declared.report.Report.{Report}

-- the most bytes of a file
abbrev pub max_file_bytes : ℕ
max_file_bytes = 65536

abbrev pub told : ℕ → Layer → ℕ → ℕ → Report
told number layer place line = record { number = number; layer = layer; place = place; line = line }

abbrev pub text_report : TextFault → ℕ → Report
text_report TooLong line = told 1 TextLayer max_file_bytes line
text_report (Misfit place) line = told 2 TextLayer place line
text_report (BadNumber place) line = told 3 TextLayer place line

abbrev pub rule_number : Rule → ℕ
rule_number InputCount = 4
rule_number LatchCount = 5
rule_number OutputCount = 6
rule_number GateCount = 7
rule_number HighestVariable = 8
rule_number GateTable = 9
rule_number InputLine = 10
rule_number OutputLiteral = 11
rule_number GateLiteral = 12
rule_number Operand = 13
rule_number SymbolPosition = 14

abbrev pub circuit_report : CircuitFault → Report
circuit_report (Text located) = text_report located.fault located.line
circuit_report (Broken rule line) = told (rule_number rule) CircuitLayer line line

abbrev pub listing_report : ListingFault → Report
listing_report Mode = told 15 ListingLayer 0 0
listing_report Inputs = told 16 ListingLayer 0 0
listing_report (Waiver held) = told 17 ListingLayer held 0
listing_report (RegisterFull held) = told 18 ListingLayer held 0
listing_report (RegisterShort held) = told 19 ListingLayer held 0
listing_report (DeciderInputs held) = told 20 ListingLayer held 0

abbrev pub table_report : TableFault → Report
table_report (TooManyInputs inputs) = told 21 TableLayer inputs 0
table_report (BitsShort needed) = told 22 TableLayer needed 0
table_report (ValuesShort needed) = told 22 TableLayer needed 0
table_report (TextShort needed) = told 22 TableLayer needed 0

abbrev pub report_of : Fault → Report
report_of (Circuit fault) = circuit_report fault
report_of (Listing fault) = listing_report fault
report_of (Table fault) = table_report fault

-- a number's layer: 1 to 3 are the text's, 4 to 14 the circuit's, 15 to 20 the listing's, 21 and 22 the table's
abbrev pub layer_of : ℕ → Layer
layer_of number = cond (nat_le number 3) TextLayer (cond (nat_le number 14) CircuitLayer (cond (nat_le number 20) ListingLayer TableLayer))

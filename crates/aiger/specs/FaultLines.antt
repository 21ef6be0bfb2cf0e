-- The line of a text fault. Assumes nothing.
--
--   located_at bs e   the text fault e of the file bs with its line: that of its place, or 0 where the file is too long
--   located_in bs r   the answer r of the text layer, a fault with its line
use Rattle.std.specs.Prelude.{ℕ, List, Result}
use Rattle.std.specs.Result.{result_map_both}
use Rattle.faults.specs.declared.text.TextFault.{TextFault}
use Rattle.faults.specs.declared.text.TextFault.TheVariants.{TooLong, Misfit, BadNumber}
use Rattle.faults.specs.declared.circuit.Located.{Located}
use Rattle.faults.specs.declared.circuit.CircuitFault.{CircuitFault}
use Rattle.faults.specs.declared.circuit.CircuitFault.TheVariants.{Text}
use Rattle.text.specs.Places.{line_of}

abbrev pub fault_line : List ℕ → TextFault → ℕ
fault_line bs TooLong = 0
fault_line bs (Misfit place) = line_of bs place
fault_line bs (BadNumber place) = line_of bs place

abbrev pub located_at : List ℕ → TextFault → Located
located_at bs e = record { fault = e; line = fault_line bs e }

abbrev pub located_in : {X : Type 0} → List ℕ → Result X TextFault → Result X Located
located_in bs r = result_map_both (λ x. x) (located_at bs) r

-- what is said of a file with too many bytes
abbrev pub too_long : CircuitFault
too_long = Text (record { fault = TooLong; line = 0 })

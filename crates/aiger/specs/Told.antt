-- What a refused file is told. Assumes nothing.
--
--   says    what a fault says of the file: a rule that it breaks on a line, or a place of its text and the line of the place
--   told    a fault is told exactly where what it says of the file is true; so nothing else is true of a file that is refused
use Rattle.std.specs.Prelude.{◌≡◌, ℕ, List, Err, Result}
use Rattle.circuit.specs.declared.reading.Reading.{Reading}
use Rattle.faults.specs.declared.circuit.CircuitFault.{CircuitFault}
use Rattle.faults.specs.declared.circuit.CircuitFault.TheVariants.{Text, Broken}
use Rattle.aiger.specs.FaultLines.{fault_line}
use Rattle.aiger.specs.Refused.{BrokenBy}
use Rattle.aiger.specs.Malformed.{Malformed}

abbrev pub Says : List ℕ → ℕ → CircuitFault → Type 0
Says file words (Text located) = Malformed file words located.fault × (located.line ≡ fault_line file located.fault)
Says file words (Broken rule line) = BrokenBy file words rule line

pub record Told (file : List ℕ) (words : ℕ) (answer : Result Reading CircuitFault) : Type 0 where
  pub says : (fault : CircuitFault) → answer ≡ Err fault → Says file words fault
  pub tells : (fault : CircuitFault) → Says file words fault → answer ≡ Err fault

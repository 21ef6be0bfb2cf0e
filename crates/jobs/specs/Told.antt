-- What a job tells: by the printed text, the finished list of the file's circuit, by its story; by two texts of one mode, whether
-- the solutions are the same; by a refusal while it reads, what is true of the file.
--   n and S      the circuit's number of inputs and its solutions
--   story        the calls that led to the finished listing; it has no waivers
--   in a cube    a row that the cube holds
-- Assumes nothing.
use Rattle.std.specs.Prelude.{◌≡◌, ℕ, ◌^◌, ◌<◌, Bool, ◌↔◌, List, [], map, Some, Err, Result}
use Rattle.faults.specs.declared.circuit.CircuitFault.{CircuitFault}
use Rattle.faults.specs.declared.job.Fault.{Fault}
use Rattle.faults.specs.declared.job.Fault.TheVariants.{Circuit, Table, Listing}
use Rattle.faults.specs.declared.job.Stage.TheVariants.{Reading as StageReading}
use Rattle.faults.specs.declared.job.JobFault.{JobFault}
use Rattle.circuit.specs.declared.reading.Reading.{Reading}
use Rattle.circuit.specs.Circuits.{Netlist}
use Rattle.circuit.specs.Solutions.{solves}
use Rattle.aiger.specs.Grammar.{Written, gate_words}
use Rattle.aiger.specs.Told.{Says}
use Rattle.cubes.specs.declared.cube.Cube.{Cube}
use Rattle.cubes.specs.declared.entry.Entry.{Entry}
use Rattle.listing.specs.declared.states.Finished.{Finished}
use Rattle.listing.specs.Calls.{mode_of, listed_of}
use Rattle.listing.specs.Stories.{Story, finished}
use Rattle.listing.specs.Theorem.{in_some, Holds}
use Rattle.pla.specs.Text.{text_of}
use Rattle.jobs.specs.Lists.{at_reading}

-- the text is that of a finished list
pub record Tells (n : ℕ) (S : ℕ → Bool) (mode : ℕ) (text : List ℕ) : Type 0 where
  pub end : Finished
  pub register : List Entry
  pub cubes : List Cube
  pub story : Story n S (finished end) register [] cubes
  pub mode_is : mode_of mode ≡ Some end.listing.draft.mode
  pub inputs_are : end.listing.draft.arity.inputs ≡ n
  pub written : text ≡ text_of n (map listed_of cubes)
  -- a row is a solution exactly where it is in a cube
  pub exact : (row : ℕ) → row < 2 ^ n → in_some cubes row ≡ S row
  -- and in mode 1 it is in one cube at most
  pub apart : mode ≡ 1 → (i j row : ℕ) → Holds n cubes i row → Holds n cubes j row → i ≡ j

-- the circuit with these gates
abbrev pub circuit_of : Reading → List (ℕ × ℕ) → Netlist
circuit_of r gates = record { inputs = r.inputs; output = r.output; gates = gate_words gates }

-- the list of a circuit's solutions
abbrev pub TellsCircuit : Netlist → ℕ → List ℕ → Type 0
TellsCircuit c mode text = Tells c.inputs (solves c) mode text

-- the file is a written circuit, with a gate table of so many words, and the text is of its list
pub record Told (file : List ℕ) (words mode : ℕ) (text : List ℕ) : Type 0 where
  pub reading : Reading
  pub gates : List (ℕ × ℕ)
  pub circuit : Written file words reading gates
  pub list : TellsCircuit (circuit_of reading gates) mode text

-- ---- a refused file

-- what a fault that is met while reading says of the file
abbrev pub SaysOf : List ℕ → ℕ → Fault → Type 0
SaysOf file words (Circuit fault) = Says file words fault
SaysOf file words (Table fault) = ⊥
SaysOf file words (Listing fault) = ⊥

-- while reading an answer refuses the file exactly with the fault that says the truth of it
pub record Refusals {X : Type 0} (file : List ℕ) (words : ℕ) (answer : Result X JobFault) : Type 0 where
  pub says : (refusal : JobFault) → answer ≡ Err refusal → refusal.stage ≡ StageReading → SaysOf file words refusal.fault
  pub tells : (fault : CircuitFault) → Says file words fault → answer ≡ Err (at_reading fault)

-- ---- two texts of one mode

abbrev pub told_circuit : {file : List ℕ} {words mode : ℕ} {text : List ℕ} → Told file words mode text → Netlist
told_circuit t = circuit_of t.reading t.gates

-- as many inputs, and the same solutions
abbrev pub SameSolutions : Netlist → Netlist → Type 0
SameSolutions c c' = (c.inputs ≡ c'.inputs) × ((row : ℕ) → row < 2 ^ c.inputs → solves c row ≡ solves c' row)

-- they are equal exactly when the circuits have the same solutions, however the two files are written and long their gate tables
abbrev pub TextsCompare : Type 0
TextsCompare =
    (file file' : List ℕ) (words words' mode : ℕ) (text text' : List ℕ) (t : Told file words mode text) (t' : Told file' words' mode text')
    → (text ≡ text') ↔ SameSolutions (told_circuit t) (told_circuit t')

-- A run: a file is read, and the solutions of its circuit are listed in a register of blank entries. Assumes nothing.
--
-- file: lines of text, a newline after each
-- circuit: its inputs, output and gates, as they are taken up from the reading and the gate table
-- cube's text: a character for each input, input 1 first: 0 or 1 where the cube fixes it, - where it is open
-- run: open, a waive for each waiver, begin, next until the listing is finished or a call is refused, and then total
-- outcome: how a run ends: after how many nexts, with which register, and its total or what is told of the refusal
use Rattle.std.specs.Prelude.{ℕ, zero, suc, ◌+◌, ◌*◌, Bool, cond, not, List, [], ◌∷◌, ◌++◌, map, length, replicate, Ok, Err, codes, Result, ◌==◌}
use Prim.Native.String.{String}
use Rattle.faults.specs.declared.circuit.CircuitFault.{CircuitFault}
use Rattle.faults.specs.declared.report.Report.{Report}
use Rattle.faults.specs.Reports.{circuit_report, listing_report, table_report}
use Rattle.circuit.specs.declared.ternary.Ternary.{Ternary}
use Rattle.circuit.specs.declared.ternary.Ternary.TheVariants.{Zero, One, Unknown}
use Rattle.circuit.specs.Kinds.{ternary_ops}
use Rattle.circuit.specs.Circuits.{Netlist, taken_up}
use Rattle.circuit.specs.Solutions.{solves}
use Rattle.circuit.specs.Answers.{evaluated}
use Rattle.aiger.specs.Lines.{up}
use Rattle.aiger.specs.Reads.{Answer, read_of}
use Rattle.cubes.specs.declared.cube.Cube.{Cube}
use Rattle.cubes.specs.declared.entry.Entry.{Entry}
use Rattle.cubes.specs.Cubes.{blank}
use Rattle.listing.specs.declared.states.Draft.{Draft}
use Rattle.listing.specs.declared.states.Running.{Running}
use Rattle.listing.specs.declared.states.Step.{Step}
use Rattle.listing.specs.declared.states.Step.TheVariants.{Listed, Ended}
use Rattle.listing.specs.Calls.{opened, waived, begun, nexted, totalled, waiver_of, listed_of}
use Rattle.listing.specs.Stories.{cube_of}

-- ---- files and circuits

abbrev pub file : List String → List ℕ
file [] = []
file (line ∷ lines) = codes line ++ 10 ∷ file lines

-- the words of the gate table: room for four gates
abbrev pub table_words : ℕ
table_words = 8

abbrev pub taken : Answer → Result Netlist CircuitFault
taken answer = up (λ fault. fault) answer.1 (λ reading. Ok (taken_up reading answer.0))

abbrev pub circuit_in : List ℕ → Result Netlist CircuitFault
circuit_in bytes = taken (read_of bytes table_words)

-- ---- cubes as text

-- the number with a digit 1 for each character that passes the test, after digits of value n
abbrev pub marked : (ℕ → Bool) → ℕ → List ℕ → ℕ
marked test n [] = n
marked test n (c ∷ cs) = marked test (2 * n + cond (test c) 1 0) cs

abbrev pub is_open : ℕ → Bool
is_open c = c == 45

abbrev pub is_one : ℕ → Bool
is_one c = c == 49

abbrev pub cube : String → Cube
cube text = cube_of (record { care = marked (λ c. not (is_open c)) 0 (codes text); value = marked is_one 0 (codes text) })

-- the entries of listed cubes, and of waivers
abbrev pub listed : List String → List Entry
listed texts = map (λ text. listed_of (cube text)) texts

abbrev pub waivers : List String → List Entry
waivers texts = map (λ text. waiver_of (cube text)) texts

-- the three-valued signals of a cube's inputs
abbrev pub signals : List ℕ → List Ternary
signals [] = []
signals (c ∷ cs) = cond (is_open c) Unknown (cond (is_one c) One Zero) ∷ signals cs

-- the three-valued evaluation of a file's circuit on a cube
abbrev pub three_valued : List ℕ → String → Result Ternary Report
three_valued bytes text =
    up circuit_report (circuit_in bytes)
    (λ c. up table_report (evaluated ternary_ops c (Zero ∷ signals (codes text) ++ replicate (length c.gates) Zero)) Ok)

-- ---- runs

-- after so many nexts, with the register then: finished with a total, ended by a refusal, or not at its end
pub data Outcome : Type 0 where
  finished : ℕ → List Entry → ℕ → Outcome
  refused : ℕ → List Entry → Report → Outcome
  unfinished : ℕ → List Entry → Outcome

-- go on with what a call gave, or end with its refusal, after k nexts
abbrev pub after : {X E : Type 0} → (E → Report) → ℕ → List Entry → Result X E → (X → Outcome) → Outcome
after report k register (Ok x) more = more x
after report k register (Err fault) more = refused k register (report fault)

abbrev pub waives : List String → Draft → List Entry → (Draft → List Entry → Outcome) → Outcome
waives [] d register more = more d register
waives (text ∷ texts) d register more =
    let call = waived d register (cube text) in after listing_report 0 call.2 call.0 (λ _. waives texts call.1 call.2 more)

-- what next k gave
abbrev pub stepped : ℕ → List Entry → Step → (Running → Outcome) → Outcome
stepped k register (Listed l) more = more l
stepped k register (Ended f) more = after listing_report k register (totalled f register) (finished k register)

-- up to so many further nexts, after k of them
abbrev pub nexts : ℕ → ℕ → ℕ → (ℕ → Bool) → Running → List Entry → Outcome
nexts zero k inputs solutions l register = unfinished k register
nexts (suc further) k inputs solutions l register =
    let call = nexted l inputs solutions register in
    after (λ refusal. listing_report refusal.fault) (k + 1) call.1 call.0
    (λ step. stepped (k + 1) call.1 step (λ more. nexts further (k + 1) inputs solutions more call.1))

-- every next but the last lists a cube, so that one next more than there are entries is enough
abbrev pub lists : Netlist → ℕ → List String → List Entry → Outcome
lists c mode texts register =
    after listing_report 0 register (opened mode c.inputs)
    (λ d. waives texts d register (λ w front. nexts (length register + 1) 0 c.inputs (solves c) (begun w) front))

-- the run of a file in a mode, with these waivers, in a register of so many entries
abbrev pub run : List ℕ → ℕ → List String → ℕ → Outcome
run bytes mode texts entries =
    let register : List Entry = replicate entries blank in after circuit_report 0 register (circuit_in bytes) (λ c. lists c mode texts register)

-- What may stand from a place on, by where the symbol machine stands there, that makes it accept the lines, refuse a position or
-- find a line malformed. Assumes nothing.
use Rattle.std.proofs.Common.{◌≡◌, ℕ, ◌+◌, Bool, true, false, List, [], ◌∷◌, ◌++◌, get_or, drop, set, Some, None, Ok, Err, Result, ltb, eqb, inl, inr, ◌⊎◌, ⊎_elim, refl, arith}
use Rattle.std.proofs.lemmas.Bool.Decides.{nat_tests}
use Rattle.std.proofs.lemmas.Bool.{cond-false, cases_Bool, eqb-true, ltb-true}
use Rattle.circuit.specs.Limits.{max_inputs}
use Rattle.faults.specs.declared.text.TextFault.{TextFault}
use Rattle.aiger.specs.Symbols.{slot_of}
use Rattle.aiger.specs.Grammar.{Numeral, Symbol, InRange, SymbolForm, SymbolLines, Ending}
use Rattle.aiger.specs.Malformed.{NameRest}
use Rattle.aiger.specs.declared.states.Letter.{Letter}
use Rattle.aiger.specs.declared.states.Letter.TheVariants.{Input, Output}
use Rattle.aiger.specs.declared.states.State.{State}
use Rattle.aiger.specs.declared.states.State.TheVariants.{Start, Position, Gap, Name, Comment, Done}
use Rattle.aiger.specs.declared.states.SymbolFault.{SymbolFault}
use Rattle.aiger.specs.declared.states.SymbolFault.TheVariants.{Text, NoSlot}
use Rattle.aiger.specs.declared.symbols.SymbolMachine.{SymbolMachine}
use Rattle.aiger.proofs.SymbolForms.{Lost}

-- the lines are accepted, a position is refused whose line has its newline at a place, or a line has this fault
pub data Verdict : Type 0 where
  Accepted : Verdict
  Refused : ℕ → Verdict
  Misread : TextFault → Verdict

abbrev pub answer : Verdict → Result (Unit {0}) SymbolFault
answer Accepted = Ok tt
answer (Refused q) = Err (NoSlot q)
answer (Misread e) = Err (Text e)

abbrev pub Accepts : Verdict → Type 0
Accepts Accepted = Unit {0}
Accepts (Refused q) = ⊥
Accepts (Misread e) = ⊥

-- the slot of a position in range
abbrev pub place : Letter → ℕ → ℕ
place Input p = p
place Output p = max_inputs

-- the symbols' slots are not marked before, nor by one another
abbrev pub Free : List Bool → List Symbol → Type 0
Free z [] = Unit {0}
Free z (s ∷ ss) = (get_or z (place s.letter s.position) false ≡ false) × Free (set z (place s.letter s.position) true) ss

-- the marks after the lines of these symbols
abbrev pub marks : List Bool → List Symbol → List Bool
marks z [] = z
marks z (s ∷ ss) = marks (set z (place s.letter s.position) true) ss

-- a position that is refused, at the newline before rest: it is too large, or its slot is marked
abbrev pub Taken : List ℕ → Verdict → ℕ → List Bool → Letter → ℕ → List ℕ → Type 0
Taken bs Accepted n z l p rest = ⊥
Taken bs (Refused q) n z l p rest = (InRange n l p → get_or z (place l p) false ≡ true) × (drop q bs ≡ 10 ∷ rest)
Taken bs (Misread e) n z l p rest = ⊥

-- a line that is malformed, from where the machine stands on
abbrev pub Astray : List ℕ → Verdict → State → List ℕ → Type 0
Astray bs Accepted s ts = ⊥
Astray bs (Refused q) s ts = ⊥
Astray bs (Misread e) s ts = Lost bs s ts e

-- the line whose position is refused
pub record Last (bs : List ℕ) (v : Verdict) (n : ℕ) (z : List Bool) (ts : List ℕ) : Type 0 where
  pub s : Symbol
  pub rest : List ℕ
  pub form : SymbolForm s ts rest
  pub taken : Taken bs v n z s.letter s.position rest

-- lines that are accepted, and then the end or the line that is refused or malformed
pub record Lines (bs : List ℕ) (v : Verdict) (n : ℕ) (z : List Bool) (ts : List ℕ) : Type 0 where
  pub symbols : List Symbol
  pub here : List ℕ
  pub lines : SymbolLines n symbols ts here
  pub free : Free z symbols
  pub last : (Accepts v × Ending here) ⊎ (Last bs v n (marks z symbols) here ⊎ Astray bs v Start here)

-- after a name: its position is accepted, and more lines, or it is refused
abbrev pub After : List ℕ → Verdict → ℕ → List Bool → Letter → ℕ → List ℕ → Type 0
After bs v n z l p rest = (InRange n l p × (get_or z (place l p) false ≡ false) × Lines bs v n (set z (place l p) true) rest) ⊎ Taken bs v n z l p rest

-- the rest of a name, after k bytes of it
pub record Named (bs : List ℕ) (v : Verdict) (n : ℕ) (z : List Bool) (l : Letter) (p k : ℕ) (ts : List ℕ) : Type 0 where
  pub text : NameRest k ts
  pub after : After bs v n z l p text.rest

-- the line that the machine is in goes well, and then all as it may
abbrev pub Well : List ℕ → Verdict → ℕ → List Bool → State → List ℕ → Type 0
Well bs v n z Start ts = Lines bs v n z ts
Well bs v n z (Position l) ts = (p : ℕ) × (ds : List ℕ) × (rest : List ℕ) × Numeral p ds × (ts ≡ ds ++ 32 ∷ rest) × Named bs v n z l p 0 rest
Well bs v n z (Gap l p) ts = (rest : List ℕ) × (ts ≡ 32 ∷ rest) × Named bs v n z l p 0 rest
Well bs v n z (Name l p k) ts = Named bs v n z l p k ts
Well bs v n z Comment ts = Accepts v × (rest : List ℕ) × (ts ≡ 10 ∷ rest)
Well bs v n z Done ts = Accepts v

abbrev pub Rest : List ℕ → Verdict → ℕ → List Bool → State → List ℕ → Type 0
Rest bs v n z Start ts = Well bs v n z Start ts
Rest bs v n z (Position l) ts = Well bs v n z (Position l) ts ⊎ Astray bs v (Position l) ts
Rest bs v n z (Gap l p) ts = Well bs v n z (Gap l p) ts ⊎ Astray bs v (Gap l p) ts
Rest bs v n z (Name l p k) ts = Well bs v n z (Name l p k) ts ⊎ Astray bs v (Name l p k) ts
Rest bs v n z Comment ts = Well bs v n z Comment ts ⊎ Astray bs v Comment ts
Rest bs v n z Done ts = Well bs v n z Done ts

-- the machine after the newline of a line with the slot s
abbrev pub ended : SymbolMachine → ℕ → SymbolMachine
ended m s = record { state = Start; at = m.at + 1; inputs = m.inputs; seen = set m.seen s true }

-- verdicts

pub accepted : (v : Verdict) → Accepts v → Ok tt ≡ answer v
accepted Accepted h = refl
accepted (Refused q) h = absurd h
accepted (Misread e) h = absurd h

pub accepts : (v : Verdict) (u : Unit {0}) → Ok u ≡ answer v → Accepts v
accepts Accepted u e = tt
accepts (Refused q) u e = cc
accepts (Misread d) u e = cc

pub ending_of : (bs : List ℕ) (n : ℕ) (z : List Bool) (ts : List ℕ) (r : Lines bs Accepted n z ts) → Ending r.here
ending_of bs n z ts r = ⊎_elim (λ a. a.1) (λ a. ⊎_elim (λ a. absurd a.taken) (λ a. absurd a) a) r.last

pub last_of : (bs : List ℕ) (q n : ℕ) (z : List Bool) (ts : List ℕ) (r : Lines bs (Refused q) n z ts) → Last bs (Refused q) n (marks z r.symbols) r.here
last_of bs q n z ts r = ⊎_elim (λ a. absurd a.0) (λ a. ⊎_elim (λ a. a) (λ a. absurd a) a) r.last

pub lost_of : (bs : List ℕ) (e : TextFault) (n : ℕ) (z : List Bool) (ts : List ℕ) (r : Lines bs (Misread e) n z ts) → Lost bs Start r.here e
lost_of bs e n z ts r = ⊎_elim (λ a. absurd a.0) (λ a. ⊎_elim (λ a. absurd a.taken) (λ a. a) a) r.last

-- slots

pub slot_within : (n : ℕ) (l : Letter) (p : ℕ) → InRange n l p → slot_of l p n ≡ Some (place l p)
slot_within n Input p h = grind (arith, nat_tests)
slot_within n Output p h = grind (arith, nat_tests)

pub slot_back : (n : ℕ) (l : Letter) (p s : ℕ) → slot_of l p n ≡ Some s → InRange n l p × (s ≡ place l p)
slot_back n Input p s e = (grind (arith, nat_tests), grind (arith, nat_tests))
slot_back n Output p s e = (grind (arith, nat_tests), grind (arith, nat_tests))

pub slot_none : (n : ℕ) (l : Letter) (p : ℕ) → slot_of l p n ≡ None → InRange n l p → ⊥
slot_none n Input p e w = grind (arith, nat_tests)
slot_none n Output p e w = grind (arith, nat_tests)

pub slot_cases : (n : ℕ) (l : Letter) (p : ℕ) → (slot_of l p n ≡ None) ⊎ InRange n l p
slot_cases n Input p = ⊎_elim (λ t. inr (ltb-true p n t)) (λ f. inl (cond-false _ _ _ f)) (cases_Bool (ltb p n))
slot_cases n Output p = ⊎_elim (λ t. inr (eqb-true p 0 t)) (λ f. inl (cond-false _ _ _ f)) (cases_Bool (eqb p 0))

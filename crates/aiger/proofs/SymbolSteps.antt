-- Each step of the symbol machine goes forward, within the file. Assumes nothing.
use Rattle.std.proofs.Common.{◌≡◌, ℕ, ◌+◌, ◌<◌, ◌≤◌, Bool, eqb, leb, ltb, List, length, get_or, Some, None, Ok, IfOk, Option, Result, subst, arith}
use Rattle.std.proofs.lemmas.Bool.{cond_both, leb-false, ltb-true}
use Rattle.faults.specs.declared.text.TextFault.{TextFault}
use Rattle.text.specs.declared.classes.Class.{Class}
use Rattle.text.specs.declared.classes.Class.TheVariants.{Digit, Blank, Newline, Letter as SmallLetter}
use Rattle.text.specs.Classes.{class_of, is}
use Rattle.text.specs.Numbers.{number_at}
use Rattle.text.specs.Runs.{going as going_by, ran as ran_by}
use Rattle.text.proofs.LineSteps.{number_rises}
use Rattle.aiger.specs.Symbols.{max_name, nameable, free, slot_of, moved, starts, placed, marked, step_by, step_of, is_over, end_of}
use Rattle.aiger.specs.declared.states.SymbolFault.{SymbolFault}
use Rattle.aiger.specs.declared.states.SymbolFault.TheVariants.{Text}
use Rattle.aiger.specs.declared.states.Letter.{Letter}
use Rattle.aiger.specs.declared.states.Letter.TheVariants.{Input, Output}
use Rattle.aiger.specs.declared.states.State.{State}
use Rattle.aiger.specs.declared.states.State.TheVariants.{Start, Position, Gap, Name, Comment, Done}
use Rattle.aiger.specs.declared.symbols.SymbolMachine.{SymbolMachine}
use Rattle.aiger.proofs.Carried.{is_self, up_if}
use Rattle.aiger.proofs.LineFaults.{number_within}
use Rattle.aiger.proofs.SymbolForms.{Short}

abbrev pub Step : Type 0
Step = Result SymbolMachine SymbolFault

abbrev pub going : List ℕ → SymbolMachine → Bool
going bs m = going_by is_over (λ m. m.at) bs m

abbrev pub ran : ℕ → List ℕ → SymbolMachine → Result (Unit {0}) SymbolFault
ran f bs m = ran_by (going bs) (step_of bs) end_of f m

-- the machine after a step: further on, within the file, and with no name that is too long
abbrev pub Onward : List ℕ → SymbolMachine → SymbolMachine → Type 0
Onward bs m t = (m.at < t.at) × (t.at ≤ length bs) × Short t.state

abbrev On : List ℕ → SymbolMachine → Step → Type 0
On bs m r = IfOk r (Onward bs m)

module _ (bs : List ℕ) (m : SymbolMachine) (h : m.at < length bs) where
  moves : (s : State) → Short s → Onward bs m (moved m s)
  moves s short = (omega arith, omega arith, short)

  mark_on : (o : Option ℕ) → On bs m (marked m o)
  mark_on None = tt
  mark_on (Some s) = (omega arith, omega arith, tt)

  place_on : (l : Letter) → On bs m (placed bs m l)
  place_on l =
      up_if Text (number_at bs m.at) _ (λ v. number_at bs m.at ≡ Ok v) (Onward bs m) (is_self (number_at bs m.at))
      (λ v e. (subst (λ (r : Result (ℕ × ℕ) TextFault). IfOk r (λ v. m.at < v.1)) e (number_rises bs m.at), number_within bs m.at v (omega arith) e, tt))

  start_on : (b : ℕ) → On bs m (starts m b)
  start_on b =
      cond_both (eqb b 105) _ _ (On bs m) (λ _. moves (Position Input) tt)
      (λ _. cond_both (eqb b 111) _ _ (On bs m) (λ _. moves (Position Output) tt) (λ _. cond_both (eqb b 99) _ _ (On bs m) (λ _. moves Comment tt) (λ _. tt)))

  step_on : (s : State) (c : Class) (b : ℕ) → On bs m (step_by bs m s c b)
  step_on Start c b = cond_both (is SmallLetter c) _ _ (On bs m) (λ _. start_on b) (λ _. tt)
  step_on (Position l) c b = cond_both (is Digit c) _ _ (On bs m) (λ _. place_on l) (λ _. tt)
  step_on (Gap l p) c b = cond_both (is Blank c) _ _ (On bs m) (λ _. moves (Name l p 0) (omega arith)) (λ _. tt)
  step_on (Name l p k) c b =
      cond_both (is Newline c) _ _ (On bs m)
      (λ _. cond_both (eqb k 0) _ _ (On bs m) (λ _. tt) (λ _. mark_on (free m.seen (slot_of l p m.inputs))))
      (λ _. cond_both (nameable c) _ _ (On bs m)
      (λ _. cond_both (leb max_name k) _ _ (On bs m) (λ _. tt) (λ e. let few = leb-false max_name k e in moves (Name l p (k + 1)) (omega arith))) (λ _. tt))
  step_on Comment c b = cond_both (is Newline c) _ _ (On bs m) (λ _. moves Done tt) (λ _. tt)
  step_on Done c b = tt

pub onward : (bs : List ℕ) (m t : SymbolMachine) → step_of bs m ≡ Ok t → Onward bs m t
onward bs m t e =
    let b = get_or bs m.at 0 in
    subst (On bs m) e (cond_both (ltb m.at (length bs)) _ _ (On bs m) (λ h. step_on bs m (ltb-true _ _ h) m.state (class_of b) b) (λ _. tt))

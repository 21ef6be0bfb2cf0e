-- Each step of the machine that reads a line goes forward. Assumes nothing.
use Rattle.std.proofs.Common.{◌≡◌, ℕ, ◌<◌, ltb, eqb, List, length, get_or, drop, Ok, IfOk, Result, subst, arith}
use Rattle.std.proofs.lemmas.Bool.{cond_both, eqb-false}
use Rattle.faults.specs.declared.text.TextFault.{TextFault}
use Rattle.text.specs.Classes.{class_of}
use Rattle.text.specs.Numbers.{digits, fair, number_at}
use Rattle.text.specs.Steps.{fits, taken, step_of}
use Rattle.text.specs.declared.line_machine.Due.{Due}
use Rattle.text.specs.declared.line_machine.Due.TheVariants.{Word, Gap, Number, End, Ended}
use Rattle.text.specs.declared.line_machine.LineMachine.{LineMachine}
use Rattle.text.proofs.Answers.{next_if}

-- a number is not empty
pub number_rises : (bs : List ℕ) (p : ℕ) → IfOk (number_at bs p) (λ v. p < v.1)
number_rises bs p =
    let ds = digits (drop p bs) in
    let P : Result (ℕ × ℕ) TextFault → Type 0 = λ r. IfOk r (λ v. p < v.1) in
    cond_both (eqb (length ds) 0) _ _ P (λ _. tt) (λ n. cond_both (fair (get_or ds 0 0) (length ds)) _ _ P (λ _. let ne = eqb-false (length ds) 0 n in omega (arith, ne)) (λ _. tt))

abbrev On : LineMachine → Result LineMachine TextFault → Type 0
On m r = IfOk r (λ t. m.at < t.at)

taken_rises : (bs : List ℕ) (m : LineMachine) (s : Due) (b : ℕ) → On m (taken bs m s b)
taken_rises bs m (Word k) b =
    cond_both (ltb k 2) _ _ (On m) (λ _. cond_both (eqb b 97) _ _ (On m) (λ _. omega arith) (λ _. tt)) (λ _. cond_both (eqb b 103) _ _ (On m) (λ _. omega arith) (λ _. tt))
taken_rises bs m (Gap k) b = omega arith
taken_rises bs m (Number k) b = next_if (number_at bs m.at) _ _ _ (number_rises bs m.at) (λ v h. cond_both (ltb k 4) _ _ (On m) (λ _. h) (λ _. h))
taken_rises bs m End b = omega arith
taken_rises bs m Ended b = tt

pub forward : (bs : List ℕ) (m t : LineMachine) → step_of bs m ≡ Ok t → m.at < t.at
forward bs m t e =
    subst (On m) e
    (cond_both (ltb m.at (length bs)) _ _ (On m)
    (λ _. cond_both (fits m.due (class_of (get_or bs m.at 0))) _ _ (On m) (λ _. taken_rises bs m m.due (get_or bs m.at 0)) (λ _. tt))
    (λ _. tt))

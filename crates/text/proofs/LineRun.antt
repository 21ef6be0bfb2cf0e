-- A line of numbers by the machine is the line item by item. Assumes nothing.
use Rattle.std.proofs.Common.{◌≡◌, ℕ, zero, suc, ◌+◌, Bool, true, false, cond, ◌&&◌, eqb, ltb, List, [], ◌∷◌, length, get_or, set, replicate, Ok, Err, Result, sym, refl, ap, ◌∙◌, subst, ⊎_elim, arith}
use Rattle.std.proofs.lemmas.Bool.Decides.{nat_tests}
use Rattle.std.proofs.lemmas.Bool.{cond-true, cases_Bool, cases_lt, le-ltb, lt-ltb}
use Rattle.faults.specs.declared.text.TextFault.{TextFault}
use Rattle.faults.specs.declared.text.TextFault.TheVariants.{Misfit}
use Rattle.text.specs.Numbers.{is_digit, judged, number_at}
use Rattle.text.specs.Runs.{next, run_of}
use Rattle.text.specs.Lines.{expect_at, item_at, numbers_at, word_at, header_at}
use Rattle.text.specs.Steps.{on_to, counted, step_by, step_of, is_ended, ended, end_of, fresh}
use Rattle.text.specs.declared.line_machine.Due.{Due}
use Rattle.text.specs.declared.line_machine.Due.TheVariants.{Word, Gap, Number, End, Ended}
use Rattle.text.specs.declared.line_machine.LineMachine.{LineMachine}
use Rattle.text.proofs.Answers.{next_ok, next_same, next_next, next_id, of_three, of_five}
use Rattle.text.proofs.Bytes.{blank_only, newline_only, digit_class, letter_due}
use Rattle.text.proofs.Digits.{digit_stop, digit_none}
use Rattle.text.proofs.LineSteps.{forward}
use Rattle.text.proofs.Runs

abbrev mk : Due → ℕ → List ℕ → LineMachine
mk s p vs = record { due = s; at = p; values = vs }

-- the numbers and the place after them
abbrev pub Line : Type 0
Line = Result (List ℕ × ℕ) TextFault

abbrev pub run : List ℕ → LineMachine → Line
run bs m = run_of is_ended (λ m. m.at) step_of end_of bs m

goes : (bs : List ℕ) (m : LineMachine) → cond (is_ended m) false (ltb m.at (length bs)) ≡ true → run bs m ≡ next (step_of bs m) (run bs)
goes bs m e = Runs.goes is_ended (λ m. m.at) step_of end_of forward bs m e

stops : (bs : List ℕ) (m : LineMachine) → cond (is_ended m) false (ltb m.at (length bs)) ≡ false → run bs m ≡ end_of m
stops bs m e = Runs.stops is_ended (λ m. m.at) step_of end_of forward bs m e

-- where the line has not ended: one step, and then the others
runs_on : (bs : List ℕ) (s : Due) (p : ℕ) (vs : List ℕ) → ended s ≡ false → run bs (mk s p vs) ≡ next (step_of bs (mk s p vs)) (run bs)
runs_on bs s p vs on =
    ⊎_elim
    (λ h. let go = goes bs (mk s p vs) in grind (arith, nat_tests, go))
    (λ h. let stop = stops bs (mk s p vs) in grind (arith, nat_tests, stop))
    (cases_lt p (length bs))

-- a byte that is due

due_next : (bs : List ℕ) (p : ℕ) (vs : List ℕ) (d : Due) (t u : Bool)
    → next (cond t (cond u (Ok (mk d (p + 1) vs)) (Err (Misfit p))) (Err (Misfit p))) (run bs) ≡ next (cond (t && u) (Ok (p + 1)) (Err (Misfit p))) (λ q. run bs (mk d q vs))
due_next bs p vs d true true = refl
due_next bs p vs d true false = refl
due_next bs p vs d false u = refl

due_run : (bs : List ℕ) (s d : Due) (p x : ℕ) (vs : List ℕ) → ended s ≡ false
    → step_by bs (mk s p vs) s (get_or bs p 0) ≡ cond (eqb (get_or bs p 0) x) (Ok (on_to (mk s p vs) d)) (Err (Misfit p))
    → run bs (mk s p vs) ≡ next (expect_at bs p x) (λ q. run bs (mk d q vs))
due_run bs s d p x vs on step =
    runs_on bs s p vs on ∙ ap (λ (r : Result LineMachine TextFault). next (cond (ltb p (length bs)) r (Err (Misfit p))) (run bs)) step
    ∙ due_next bs p vs d (ltb p (length bs)) (eqb (get_or bs p 0) x)

gap_run : (bs : List ℕ) (p k : ℕ) (vs : List ℕ) → run bs (mk (Gap k) p vs) ≡ next (expect_at bs p 32) (λ q. run bs (mk (Number k) q vs))
gap_run bs p k vs = due_run bs (Gap k) (Number k) p 32 vs refl (ap (λ (t : Bool). cond t (Ok (mk (Number k) (p + 1) vs)) (Err (Misfit p))) (blank_only (get_or bs p 0)))

end_run : (bs : List ℕ) (p : ℕ) (vs : List ℕ) → run bs (mk End p vs) ≡ next (expect_at bs p 10) (λ q. Ok (vs, q))
end_run bs p vs =
    due_run bs End Ended p 10 vs refl (ap (λ (t : Bool). cond t (Ok (mk Ended (p + 1) vs)) (Err (Misfit p))) (newline_only (get_or bs p 0)))
    ∙ next_same (expect_at bs p 10) (λ q. run bs (mk Ended q vs)) (λ q. Ok (vs, q)) (λ q e. stops bs (mk Ended q vs) refl)

-- a number

abbrev then_number : List ℕ → ℕ → List ℕ → ℕ × ℕ → Line
then_number bs k vs v = cond (ltb k 4) (run bs (mk (Gap (k + 1)) v.1 (set vs k v.0))) (run bs (mk End v.1 (set vs 4 v.0)))

either : (bs : List ℕ) (t : Bool) (a b : LineMachine) → next (cond t (Ok a) (Ok b)) (run bs) ≡ cond t (run bs a) (run bs b)
either bs true a b = refl
either bs false a b = refl

number_run : (bs : List ℕ) (p k : ℕ) (vs : List ℕ) → run bs (mk (Number k) p vs) ≡ next (number_at bs p) (then_number bs k vs)
number_run bs p k vs =
    let m = mk (Number k) p vs in
    let b = get_or bs p 0 in
    let N : List ℕ → Line = λ l. next (judged p l) (then_number bs k vs) in
    let S : Bool → Bool → Line = λ t u. next (cond t (cond u (counted bs m k) (Err (Misfit p))) (Err (Misfit p))) (run bs) in
    runs_on bs (Number k) p vs refl ∙ ap (S (ltb p (length bs))) (digit_class b)
    ∙ ⊎_elim
    (λ h. ap (λ t. S t (is_digit b)) (lt-ltb _ _ h) ∙ ⊎_elim
    (λ d. ap (S true) d ∙ next_next (number_at bs p) _ (run bs)
    ∙ next_same (number_at bs p) _ _ (λ v _. either bs (ltb k 4) (mk (Gap (k + 1)) v.1 (set vs k v.0)) (mk End v.1 (set vs 4 v.0))))
    (λ n. ap (S true) n ∙ sym (ap N (digit_stop bs p h n)))
    (cases_Bool (is_digit b)))
    (λ h. ap (λ t. S t (is_digit b)) (le-ltb _ _ h) ∙ sym (ap N (digit_none bs p h)))
    (cases_lt p (length bs))

-- a number, the byte due after it, and what follows them
due_item : (bs : List ℕ) (p k : ℕ) (vs : List ℕ) (x : ℕ) (K : ℕ × ℕ → Line)
    → ((v : ℕ × ℕ) → then_number bs k vs v ≡ next (expect_at bs v.1 x) (λ end. K (v.0, end))) → run bs (mk (Number k) p vs) ≡ next (item_at bs p x) K
due_item bs p k vs x K h =
    number_run bs p k vs
    ∙ next_same (number_at bs p) _ _ (λ v _. h v ∙ sym (next_next (expect_at bs v.1 x) (λ end. Ok (v.0, end)) K))
    ∙ sym (next_next (number_at bs p) (λ v. next (expect_at bs v.1 x) (λ end. Ok (v.0, end))) K)

item_run : (bs : List ℕ) (p k : ℕ) (vs : List ℕ) → ltb k 4 ≡ true → run bs (mk (Number k) p vs) ≡ next (item_at bs p 32) (λ v. run bs (mk (Number (k + 1)) v.1 (set vs k v.0)))
item_run bs p k vs low =
    due_item bs p k vs 32 (λ v. run bs (mk (Number (k + 1)) v.1 (set vs k v.0))) (λ v. cond-true (ltb k 4) _ _ low ∙ gap_run bs v.1 (k + 1) (set vs k v.0))

last_run : (bs : List ℕ) (p : ℕ) (vs : List ℕ) → run bs (mk (Number 4) p vs) ≡ next (item_at bs p 10) (λ v. Ok (set vs 4 v.0, v.1))
last_run bs p vs = due_item bs p 4 vs 10 (λ v. Ok (set vs 4 v.0, v.1)) (λ v. end_run bs v.1 (set vs 4 v.0))

-- the numbers in their places, from place k on
abbrev put : List ℕ → ℕ → List ℕ → List ℕ
put vs k [] = vs
put vs k (x ∷ xs) = put (set vs k x) (k + 1) xs

abbrev after : List ℕ → ℕ → List ℕ × ℕ → Line
after vs k r = Ok (put vs k r.0, r.1)

line_run : (more : ℕ) (bs : List ℕ) (p k : ℕ) (vs : List ℕ) → k + more ≡ 4 → run bs (mk (Number k) p vs) ≡ next (numbers_at bs p more) (after vs k)
line_run zero bs p k vs e =
    let four : 4 ≡ k = omega arith in
    subst (λ (k : ℕ). run bs (mk (Number k) p vs) ≡ next (numbers_at bs p 0) (after vs k)) four
    (last_run bs p vs ∙ sym (next_next (item_at bs p 10) (λ v. Ok (v.0 ∷ [], v.1)) (after vs 4)))
line_run (suc more) bs p k vs e =
    item_run bs p k vs (lt-ltb k 4 (omega arith))
    ∙ next_same (item_at bs p 32) _ _ (λ v _. line_run more bs v.1 (k + 1) (set vs k v.0) (omega arith)
    ∙ sym (next_next (numbers_at bs v.1 more) (λ vs. Ok (v.0 ∷ vs.0, vs.1)) (after vs k)))
    ∙ sym (next_next (item_at bs p 32) (λ v. next (numbers_at bs v.1 more) (λ vs. Ok (v.0 ∷ vs.0, vs.1))) (after vs k))

-- a line has as many numbers as it should
pub numbers_count : (more : ℕ) (bs : List ℕ) (p : ℕ) (r : List ℕ × ℕ) → numbers_at bs p more ≡ Ok r → length r.0 ≡ suc more
numbers_count zero bs p r e = let v = next_ok (item_at bs p 10) _ r e in grind (arith, v.2)
numbers_count (suc more) bs p r e =
    let v = next_ok (item_at bs p 32) _ r e in
    let vs = next_ok (numbers_at bs v.0.1 more) _ r v.2 in
    grind (arith, vs.2, numbers_count more bs v.0.1 vs.0 vs.1)

-- whole lines

abbrev none : List ℕ
none = replicate 5 0

-- what is made of a line that the machine read
pub line_read : {X : Type 0} (bs : List ℕ) (m m' : LineMachine) (r : Line) (f : List ℕ × ℕ → Result X TextFault) → r ≡ run bs m → m ≡ m' → next r f ≡ next (run bs m') f
line_read bs m m' r f read same = ap (λ x. next x f) (read ∙ ap (run bs) same)

abbrev pub value_in : List ℕ × ℕ → Result (ℕ × ℕ) TextFault
value_in l = Ok (get_or l.0 4 0, l.1)

pub number_line_is : (bs : List ℕ) (p : ℕ) → next (run bs (fresh (Number 4) p)) value_in ≡ item_at bs p 10
number_line_is bs p = ap (λ (r : Line). next r value_in) (last_run bs p none) ∙ next_next (item_at bs p 10) _ value_in ∙ next_id (item_at bs p 10)

abbrev pub triple_in : List ℕ × ℕ → Line
triple_in l = Ok (get_or l.0 2 0 ∷ get_or l.0 3 0 ∷ get_or l.0 4 0 ∷ [], l.1)

pub triple_line_is : (bs : List ℕ) (p : ℕ) → next (run bs (fresh (Number 2) p)) triple_in ≡ numbers_at bs p 2
triple_line_is bs p =
    ap (λ (r : Line). next r triple_in) (line_run 2 bs p 2 none refl) ∙ next_next (numbers_at bs p 2) (after none 2) triple_in
    ∙ next_same (numbers_at bs p 2) _ (λ r. Ok r) (λ r e. of_three (λ l. triple_in (put none 2 l, r.1) ≡ Ok (l, r.1)) (λ a b c. refl) r.0 (numbers_count 2 bs p r e))
    ∙ next_id (numbers_at bs p 2)

word_is : (bs : List ℕ) (vs : List ℕ) → run bs (mk (Word 0) 0 vs) ≡ next (word_at bs) (λ s. run bs (mk (Number 0) s vs))
word_is bs vs =
    let N : ℕ → Line = λ s. run bs (mk (Number 0) s vs) in
    due_run bs (Word 0) (Word 1) 0 97 vs refl (letter_due (get_or bs 0 0) 97 _ _ refl)
    ∙ next_same (expect_at bs 0 97) _ (λ p. next (next (expect_at bs p 97) (λ q. next (expect_at bs q 103) (λ r. expect_at bs r 32))) N) (λ p _.
    due_run bs (Word 1) (Word 2) p 97 vs refl (letter_due (get_or bs p 0) 97 _ _ refl)
    ∙ next_same (expect_at bs p 97) _ (λ q. next (next (expect_at bs q 103) (λ r. expect_at bs r 32)) N) (λ q _.
    due_run bs (Word 2) (Gap 0) q 103 vs refl (letter_due (get_or bs q 0) 103 _ _ refl)
    ∙ next_same (expect_at bs q 103) _ (λ r. next (expect_at bs r 32) N) (λ r _. gap_run bs r 0 vs)
    ∙ sym (next_next (expect_at bs q 103) (λ r. expect_at bs r 32) N))
    ∙ sym (next_next (expect_at bs p 97) (λ q. next (expect_at bs q 103) (λ r. expect_at bs r 32)) N))
    ∙ sym (next_next (expect_at bs 0 97) (λ p. next (expect_at bs p 97) (λ q. next (expect_at bs q 103) (λ r. expect_at bs r 32))) N)

pub header_line_is : (bs : List ℕ) → run bs (fresh (Word 0) 0) ≡ header_at bs
header_line_is bs =
    word_is bs none
    ∙ next_same (word_at bs) _ (λ p. numbers_at bs p 4) (λ p _.
    line_run 4 bs p 0 none refl
    ∙ next_same (numbers_at bs p 4) _ (λ r. Ok r) (λ r e. of_five (λ l. ◌≡◌ {A = Line} (Ok (put none 0 l, r.1)) (Ok (l, r.1))) (λ a b c d f. refl) r.0 (numbers_count 4 bs p r e))
    ∙ next_id (numbers_at bs p 4))

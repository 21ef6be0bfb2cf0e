-- A run of a machine whose steps go forward: the number of steps allowed does not matter. Assumes nothing.
use Rattle.std.proofs.Common.{◌≡◌, ℕ, zero, suc, ◌-◌, ◌<◌, ◌≤◌, Bool, true, false, cond, List, length, Ok, Err, Result, sym, ap, ◌∙◌, refl, ⊎_elim, arith}
use Rattle.std.proofs.lemmas.Bool.Decides.{nat_tests}
use Rattle.std.proofs.lemmas.Bool.{cond-true, cond-false, cases_Bool}
use Rattle.text.specs.Runs.{next, split, going, ran, run_of}
use Rattle.text.proofs.Answers.{next_same}

module _ {M : Type 0} (over : M → Bool) (at : M → ℕ) (bs : List ℕ) where
  pub past_end : (m : M) → length bs ≤ at m → going over at bs m ≡ false
  past_end m h = grind (arith, nat_tests)

  pub inside : (m : M) → going over at bs m ≡ true → at m < length bs
  inside m e = grind (arith, nat_tests)

  goes_on : (m : M) → over m ≡ false → at m < length bs → going over at bs m ≡ true
  goes_on m o h = grind (arith, nat_tests)

module _ {M A E : Type 0} (over : M → Bool) (at : M → ℕ) (after : List ℕ → M → Result M E) (answer : M → Result A E) (bs : List ℕ) where
  -- what is left of a run: steps enough for the bytes that are left
  abbrev pub Left : M → Result A E → Type 0
  Left m r = (f : ℕ) × (length bs - at m ≤ f) × (ran (going over at bs) (after bs) answer f m ≡ r)

  -- what is left of a run after a step
  pub left_more : (m t : M) (r : Result A E) → Left m r → over m ≡ false → at m < length bs → after bs m ≡ Ok t → at m < at t → Left t r
  left_more m t r (zero, h, p) o i e on = absurd (omega arith)
  left_more m t r (suc f, h, p) o i e on =
      (f, omega arith, sym (cond-true _ _ _ (goes_on over at bs m o i) ∙ ap (λ (s : Result M E). next s (ran (going over at bs) (after bs) answer f)) e) ∙ p)

  pub left_fault : (m : M) (d : E) (r : Result A E) → Left m r → over m ≡ false → at m < length bs → after bs m ≡ Err d → Err d ≡ r
  left_fault m d r (zero, h, p) o i e = absurd (omega arith)
  left_fault m d r (suc f, h, p) o i e = sym (cond-true _ _ _ (goes_on over at bs m o i) ∙ ap (λ (s : Result M E). next s (ran (going over at bs) (after bs) answer f)) e) ∙ p

  pub left_none : (m : M) (r : Result A E) → Left m r → going over at bs m ≡ false → answer m ≡ r
  left_none m r (zero, h, p) stop = p
  left_none m r (suc f, h, p) stop = sym (cond-false _ _ _ stop) ∙ p

module _ {M A E : Type 0} (over : M → Bool) (at : M → ℕ) (after : List ℕ → M → Result M E) (answer : M → Result A E)
    (forward : (bs : List ℕ) (m t : M) → after bs m ≡ Ok t → at m < at t) (bs : List ℕ) where
  -- steps enough are as good as more
  enough : (f g : ℕ) (m : M) → length bs - at m ≤ f → length bs - at m ≤ g
      → ran (going over at bs) (after bs) answer f m ≡ ran (going over at bs) (after bs) answer g m
  enough zero zero m a b = refl
  enough zero (suc g) m a b = sym (cond-false _ _ _ (past_end over at bs m (omega arith)))
  enough (suc f) zero m a b = cond-false _ _ _ (past_end over at bs m (omega arith))
  enough (suc f) (suc g) m a b =
      ⊎_elim
      (λ go. ap (λ (r : Result A E). cond (going over at bs m) r (answer m))
      (next_same (after bs m) (ran (going over at bs) (after bs) answer f) (ran (going over at bs) (after bs) answer g)
      (λ t e. enough f g t (omega (arith, inside over at bs m go, forward bs m t e)) (omega (arith, inside over at bs m go, forward bs m t e)))))
      (λ stop. cond-false _ _ _ stop ∙ sym (cond-false _ _ _ stop))
      (cases_Bool (going over at bs m))

  -- one step, and then the others
  pub goes : (m : M) → going over at bs m ≡ true → run_of over at after answer bs m ≡ next (after bs m) (run_of over at after answer bs)
  goes m go = enough (length bs) (suc (length bs)) m (omega arith) (omega arith) ∙ cond-true _ _ _ go

  pub stops : (m : M) → going over at bs m ≡ false → run_of over at after answer bs m ≡ answer m
  stops m stop = enough (length bs) (suc (length bs)) m (omega arith) (omega arith) ∙ cond-false _ _ _ stop

pub split_ok : {M E : Type 0} (m s : M) (u : Unit {0}) (r : Result M E) → ◌≡◌ {A = M × Result (Unit {0}) E} (s, Ok u) (split m r) → r ≡ Ok s
split_ok m s u (Ok t) e = grind arith
split_ok m s u (Err d) e = grind arith

pub split_err : {M E : Type 0} (m s : M) (d : E) (r : Result M E) → ◌≡◌ {A = M × Result (Unit {0}) E} (s, Err d) (split m r) → r ≡ Err d
split_err m s d (Ok t) e = grind arith
split_err m s d (Err f) e = grind arith

-- The run of a machine over a file. Assumes nothing.
--
--   over     whether a machine takes in no more
--   at       where in the file it stands
--   after    the machine after what stands there, or a fault
--   answer   what it gives where it stops, or a fault
--   run_of   steps until the machine is over or the file ends, and then the answer; the first fault ends it
use Rattle.std.specs.Prelude.{ℕ, zero, suc, Bool, false, cond, List, length, Ok, Err, Result, nat_lt}

-- go on with the value, or end with the fault
abbrev pub next : {X Y E : Type 0} → Result X E → (X → Result Y E) → Result Y E
next (Ok x) k = k x
next (Err e) k = Err e

-- the machine and the answer after a step; a fault leaves the machine as it is
abbrev pub split : {M E : Type 0} → M → Result M E → M × Result (Unit {0}) E
split m (Ok s) = (s, Ok tt)
split m (Err e) = (m, Err e)

-- whether there is more to take in
abbrev pub going : {M : Type 0} → (M → Bool) → (M → ℕ) → List ℕ → M → Bool
going over at bs m = cond (over m) false (nat_lt (at m) (length bs))

-- so many steps at most
abbrev pub ran : {M A E : Type 0} → (M → Bool) → (M → Result M E) → (M → Result A E) → ℕ → M → Result A E
ran going after answer zero m = answer m
ran going after answer (suc f) m = cond (going m) (next (after m) (ran going after answer f)) (answer m)

abbrev pub run_of : {M A E : Type 0} → (M → Bool) → (M → ℕ) → (List ℕ → M → Result M E) → (M → Result A E) → List ℕ → M → Result A E
run_of over at after answer bs m = ran (going over at bs) (after bs) answer (length bs) m

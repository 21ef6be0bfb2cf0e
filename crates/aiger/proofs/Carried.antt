-- Answers that are carried up a layer: what a good one came from. Assumes nothing.
use Rattle.std.proofs.Common.{◌≡◌, ℕ, List, Ok, Err, IfOk, Result, refl, arith}
use Rattle.std.specs.Result.{result_map_both}
use Rattle.aiger.specs.Lines.{up, keep}

pub up_ok : {X Y E F : Type 0} (f : E → F) (r : Result X E) (k : X → Result Y F) (y : Y) → up f r k ≡ Ok y → (x : X) × (r ≡ Ok x) × (k x ≡ Ok y)
up_ok f (Ok x) k y e = (x, refl, e)
up_ok f (Err d) k y e = cc

-- a good answer is what it is
pub is_self : {X E : Type 0} (r : Result X E) → IfOk r (λ x. r ≡ Ok x)
is_self (Ok x) = refl
is_self (Err e) = tt

pub up_if : {X Y E F : Type 0} (f : E → F) (r : Result X E) (k : X → Result Y F) (P : X → Type 0) (Q : Y → Type 0) → IfOk r P → ((x : X) → P x → IfOk (k x) Q) → IfOk (up f r k) Q
up_if f (Ok x) k P Q p g = g x p
up_if f (Err e) k P Q p g = tt

pub keep_ok : {X Y E F : Type 0} (f : E → F) (t : List ℕ) (r : Result X E) (k : X → List ℕ × Result Y F) (z : List ℕ) (y : Y)
    → ◌≡◌ {A = List ℕ × Result Y F} (keep f t r k) (z, Ok y) → (x : X) × (r ≡ Ok x) × (◌≡◌ {A = List ℕ × Result Y F} (k x) (z, Ok y))
keep_ok f t (Ok x) k z y e = (x, refl, e)
keep_ok f t (Err d) k z y e = grind arith

-- an answer whose fault is told otherwise
pub told_ok : {X E F : Type 0} (f : E → F) (r : Result X E) (x : X) → result_map_both (λ x. x) f r ≡ Ok x → r ≡ Ok x
told_ok f (Ok y) x e = cc
told_ok f (Err d) x e = cc

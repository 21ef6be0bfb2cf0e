-- Answers one after the other: what a good one came from, and what a refusal. Assumes nothing.
use Rattle.std.proofs.Common.{◌≡◌, ℕ, suc, Bool, true, false, cond, List, [], ◌∷◌, length, Ok, Err, IfOk, Result, refl, ap, inl, inr, ◌⊎◌, arith}
use Rattle.text.specs.Runs.{next}

pub ok_same : {X E : Type 0} (x y : X) → ◌≡◌ {A = Result X E} (Ok x) (Ok y) → x ≡ y
ok_same x y e = cc

pub err_same : {X E : Type 0} (d e : E) → ◌≡◌ {A = Result X E} (Err d) (Err e) → d ≡ e
err_same d e h = cc

-- a test before which a refusal stands
pub after_test : {X E : Type 0} (t : Bool) (r : Result X E) (y : X) (f : E) → cond t (Err f) r ≡ Ok y → (t ≡ false) × (r ≡ Ok y)
after_test false r y f e = (refl, e)
after_test true r y f e = cc

pub in_test : {X E : Type 0} (t : Bool) (r : Result X E) (y : X) (f : E) → cond t r (Err f) ≡ Ok y → (t ≡ true) × (r ≡ Ok y)
in_test true r y f e = (refl, e)
in_test false r y f e = cc

pub next_ok : {X Y E : Type 0} (r : Result X E) (k : X → Result Y E) (y : Y) → next r k ≡ Ok y → (x : X) × (r ≡ Ok x) × (k x ≡ Ok y)
next_ok (Ok x) k y e = (x, refl, e)
next_ok (Err f) k y e = cc

pub next_err : {X Y E : Type 0} (r : Result X E) (k : X → Result Y E) (e : E) → next r k ≡ Err e → (r ≡ Err e) ⊎ ((x : X) × (r ≡ Ok x) × (k x ≡ Err e))
next_err (Ok x) k e h = inr (x, refl, h)
next_err (Err d) k e h = inl (ap Err (err_same d e h))

pub next_if : {X Y E : Type 0} (r : Result X E) (k : X → Result Y E) (P : X → Type 0) (Q : Y → Type 0) → IfOk r P → ((x : X) → P x → IfOk (k x) Q) → IfOk (next r k) Q
next_if (Ok x) k P Q p f = f x p
next_if (Err e) k P Q p f = tt

pub next_same : {X Y E : Type 0} (r : Result X E) (k h : X → Result Y E) → ((x : X) → r ≡ Ok x → k x ≡ h x) → next r k ≡ next r h
next_same (Ok x) k h s = s x refl
next_same (Err e) k h s = refl

pub next_next : {X Y Z E : Type 0} (r : Result X E) (f : X → Result Y E) (g : Y → Result Z E) → next (next r f) g ≡ next r (λ x. next (f x) g)
next_next (Ok x) f g = refl
next_next (Err e) f g = refl

pub next_id : {X E : Type 0} (r : Result X E) → next r (λ x. Ok x) ≡ r
next_id (Ok x) = refl
next_id (Err e) = refl

-- lists of a known length

nil : (P : List ℕ → Type 0) → P [] → (xs : List ℕ) → length xs ≡ 0 → P xs
nil P f [] h = f
nil P f (x ∷ xs) h = absurd (omega arith)

more : (n : ℕ) (P : List ℕ → Type 0) → ((x : ℕ) (xs : List ℕ) → length xs ≡ n → P (x ∷ xs)) → (xs : List ℕ) → length xs ≡ suc n → P xs
more n P f [] h = absurd (omega arith)
more n P f (x ∷ xs) h = f x xs (omega arith)

pub of_three : (P : List ℕ → Type 0) → ((a b c : ℕ) → P (a ∷ b ∷ c ∷ [])) → (xs : List ℕ) → length xs ≡ 3 → P xs
of_three P f = more 2 P (λ a. more 1 (λ l. P (a ∷ l)) (λ b. more 0 (λ l. P (a ∷ b ∷ l)) (λ c. nil (λ l. P (a ∷ b ∷ c ∷ l)) (f a b c))))

pub of_five : (P : List ℕ → Type 0) → ((a b c d e : ℕ) → P (a ∷ b ∷ c ∷ d ∷ e ∷ [])) → (xs : List ℕ) → length xs ≡ 5 → P xs
of_five P f = more 4 P (λ a. more 3 (λ l. P (a ∷ l)) (λ b. of_three (λ l. P (a ∷ b ∷ l)) (f a b)))

-- The bytes of a class. Assumes nothing.
use Rattle.std.proofs.Common.{◌≡◌, ℕ, Bool, true, false, cond, eqb, sym, refl, ap, ◌∙◌, ⊎_elim, arith}
use Rattle.std.proofs.lemmas.Bool.{cond-true, cond-false, cond_both, cases_Bool, eqb-true, false≢true}
use Rattle.text.specs.Classes.{is, within, class_of}
use Rattle.text.specs.Numbers.{is_digit}
use Rattle.text.specs.declared.classes.Class.{Class}
use Rattle.text.specs.declared.classes.Class.TheVariants.{Digit, Blank, Newline, Letter, Mark, Other}

-- what holds of a byte's class, class by class
class_cases : (P : Class → Type 0) (b : ℕ) → (is_digit b ≡ true → P Digit)
    → (is_digit b ≡ false → (b ≡ 32 → P Blank) × (b ≡ 10 → P Newline) × P Letter × P Mark × P Other) → P (class_of b)
class_cases P b digit others =
    cond_both (within 48 57 b) _ _ P digit (λ n.
    cond_both (eqb b 32) _ _ P (λ t. (others n).0 (eqb-true b 32 t)) (λ _.
    cond_both (eqb b 10) _ _ P (λ t. (others n).1 (eqb-true b 10 t)) (λ _.
    cond_both (within 97 122 b) _ _ P (λ _. (others n).2) (λ _.
    cond_both (within 33 126 b) _ _ P (λ _. (others n).3) (λ _. (others n).4)))))

pub blank_byte : (b : ℕ) → is Blank (class_of b) ≡ true → b ≡ 32
blank_byte b = class_cases (λ x. is Blank x ≡ true → b ≡ 32) b (λ _ e. cc) (λ _. (λ h _. h, λ _ e. cc, λ e. cc, λ e. cc, λ e. cc))

pub newline_byte : (b : ℕ) → is Newline (class_of b) ≡ true → b ≡ 10
newline_byte b = class_cases (λ x. is Newline x ≡ true → b ≡ 10) b (λ _ e. cc) (λ _. (λ _ e. cc, λ h _. h, λ e. cc, λ e. cc, λ e. cc))

pub digit_class : (b : ℕ) → is Digit (class_of b) ≡ is_digit b
digit_class b = class_cases (λ x. is Digit x ≡ is_digit b) b (λ t. sym t) (λ n. (λ _. sym n, λ _. sym n, sym n, sym n, sym n))

-- a test that only x passes
only : (f : ℕ → Bool) (b x : ℕ) → f x ≡ true → (f b ≡ true → b ≡ x) → f b ≡ eqb b x
only f b x at back =
    ⊎_elim
    (λ t. ap f (eqb-true b x t) ∙ at ∙ sym t)
    (λ n. ⊎_elim (λ t. absurd (false≢true (sym n ∙ ap (λ (y : ℕ). eqb b y) (sym (back t)) ∙ self b))) (λ e. e ∙ sym n) (cases_Bool (f b)))
    (cases_Bool (eqb b x))
  where
    self : (n : ℕ) → eqb n n ≡ true
    self n = grind arith

pub blank_only : (b : ℕ) → is Blank (class_of b) ≡ eqb b 32
blank_only b = only (λ b. is Blank (class_of b)) b 32 refl (blank_byte b)

pub newline_only : (b : ℕ) → is Newline (class_of b) ≡ eqb b 10
newline_only b = only (λ b. is Newline (class_of b)) b 10 refl (newline_byte b)

-- where a letter is due, its class is no further test
pub letter_due : {X : Type 0} (b x : ℕ) (y n : X) → is Letter (class_of x) ≡ true → cond (is Letter (class_of b)) (cond (eqb b x) y n) n ≡ cond (eqb b x) y n
letter_due b x y n h =
    ⊎_elim
    (λ t. cond-true _ _ _ (ap (λ (b : ℕ). is Letter (class_of b)) (eqb-true b x t) ∙ h))
    (λ f. let e = cond-false (eqb b x) y n f in cond_both (is Letter (class_of b)) (cond (eqb b x) y n) n (λ z. z ≡ cond (eqb b x) y n) (λ _. refl) (λ _. sym e))
    (cases_Bool (eqb b x))

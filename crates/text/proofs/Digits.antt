-- The longest run of digits. Assumes nothing.
use Rattle.std.proofs.Common.{◌≡◌, ℕ, zero, suc, ◌<◌, ◌≤◌, false, cond, List, [], ◌∷◌, length, get_or, drop, refl, ap, ◌∙◌, arith}
use Rattle.std.proofs.lemmas.List.{at_drop_more, at_drop_all}
use Rattle.std.proofs.lemmas.Bool.{cond-false, cond_both, and_parts, leb-true}
use Rattle.std.proofs.lemmas.List.Sums.{take_while-cons}
use Rattle.std.specs.List.{take_while}
use Rattle.text.specs.Numbers.{is_digit, AllDigits, digits}

pub digit_stop : (bs : List ℕ) (i : ℕ) → i < length bs → is_digit (get_or bs i 0) ≡ false → digits (drop i bs) ≡ []
digit_stop bs i h e = at_drop_more digits bs i 0 h ∙ cond-false _ _ _ e

pub digit_none : (bs : List ℕ) (i : ℕ) → length bs ≤ i → digits (drop i bs) ≡ []
digit_none bs i h = at_drop_all digits bs i h

-- the longest run is what the library takes while it is digits
pub digits_taken : (bs : List ℕ) → take_while is_digit bs ≡ digits bs
digits_taken [] = refl
digits_taken (b ∷ bs) = take_while-cons is_digit b bs ∙ ap (λ (l : List ℕ). cond (is_digit b) (b ∷ l) []) (digits_taken bs)

-- each byte of a run is a digit
pub all_digits : (bs : List ℕ) → AllDigits (digits bs)
all_digits [] k = λ h. absurd (omega arith)
all_digits (b ∷ bs) zero = cond_both (is_digit b) (b ∷ digits bs) [] (λ l. 0 < length l → (48 ≤ get_or l 0 0) × (get_or l 0 0 ≤ 57)) (λ t h. let p = and_parts _ _ t in (leb-true _ _ p.0, leb-true _ _ p.1)) (λ _ h. absurd (omega arith))
all_digits (b ∷ bs) (suc k) = cond_both (is_digit b) (b ∷ digits bs) [] (λ l. suc k < length l → (48 ≤ get_or l (suc k) 0) × (get_or l (suc k) 0 ≤ 57)) (λ t h. all_digits bs k (omega arith)) (λ _ h. absurd (omega arith))

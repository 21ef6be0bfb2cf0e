-- Storing bytes in memory: one piece after another, from the start, and over a part.
use Rattle.std.proofs.Common.{◌≡◌, ℕ, zero, suc, ◌+◌, ◌≤◌, List, [], ◌∷◌, ◌++◌, length, drop, set, sym, refl, ap, ◌∙◌, arith, length-set}
use borrow.Rule.Slice.PartMut.{put_mid}
use Rattle.pla.specs.Memory.{stored}

pub length_stored : (t : List ℕ) (i : ℕ) (xs : List ℕ) → length (stored t i xs) ≡ length t
length_stored t i [] = refl
length_stored t i (x ∷ xs) = length_stored (set t i x) (suc i) xs ∙ length-set t i x

pub stored_append : (t : List ℕ) (i : ℕ) (xs ys : List ℕ) → stored (stored t i xs) (i + length xs) ys ≡ stored t i (xs ++ ys)
stored_append t i [] ys = ap (λ j. stored t j ys) (omega arith)
stored_append t i (x ∷ xs) ys =
    ap (λ j. stored (stored t i (x ∷ xs)) j ys) (omega arith) ∙ stored_append _ (suc i) xs ys

stored_skip : (t : List ℕ) (i : ℕ) (xs : List ℕ) (y : ℕ) → stored (y ∷ t) (suc i) xs ≡ y ∷ stored t i xs
stored_skip t i [] y = refl
stored_skip t i (x ∷ xs) y = stored_skip _ (suc i) xs y

pub stored_front : (t xs : List ℕ) → length xs ≤ length t → stored t 0 xs ≡ xs ++ drop (length xs) t
stored_front t [] h = refl
stored_front [] (x ∷ xs) h = absurd (omega arith)
stored_front (y ∷ t) (x ∷ xs) h = stored_skip t 0 xs x ∙ ap (λ r. x ∷ r) (stored_front t xs (omega arith))

pub stored_part : (t : List ℕ) (i : ℕ) (xs : List ℕ) → i + length xs ≤ length t → put_mid i (length xs) t xs ≡ stored t i xs
stored_part t zero xs h = sym (stored_front t xs (omega arith))
stored_part [] (suc i) [] h = refl
stored_part [] (suc i) (x ∷ xs) h = absurd (omega arith)
stored_part (y ∷ t) (suc i) xs h = ap (λ r. y ∷ r) (stored_part t i xs (omega arith)) ∙ sym (stored_skip t i xs y)

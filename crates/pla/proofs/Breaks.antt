-- A text falls into its lines at byte 10 in one way only.
use Rattle.std.proofs.Common.{◌≡◌, ℕ, zero, suc, ◌+◌, ◌/◌, ◌%◌, Bool, true, false, not, eqb, ltb, ◌≢◌, List, [], ◌∷◌, ◌++◌, decimal, sym, refl, ap, ◌∙◌, arith}
use Rattle.std.specs.Fmt.{digits, digits_onto, digit_glyph}
use Rattle.std.specs.List.{flat_map, list_all}
use Rattle.std.proofs.lemmas.List.Folds.{list_all-append}
use Rattle.std.proofs.lemmas.Bool.{and_from, and_parts, cond_both, eqb-false, ne_eqb, not-true}
use Rattle.pla.specs.Text.{ended}

-- no byte of the line ends it
abbrev pub whole : List ℕ → Bool
whole = list_all (λ x. not (eqb x 10))

pub whole_append : (xs ys : List ℕ) → whole xs ≡ true → whole ys ≡ true → whole (xs ++ ys) ≡ true
whole_append xs ys p q = list_all-append (λ x. not (eqb x 10)) xs ys ∙ and_from (whole xs) (whole ys) p q

whole_parts : (x : ℕ) (xs : List ℕ) → whole (x ∷ xs) ≡ true → (x ≢ 10) × (whole xs ≡ true)
whole_parts x xs p =
    let parts = and_parts (not (eqb x 10)) (whole xs) p in
    (eqb-false x 10 (not-true (eqb x 10) parts.0), parts.1)

pub first_line : (a b r s : List ℕ) → whole a ≡ true → whole b ≡ true → ended a ++ r ≡ ended b ++ s → (a ≡ b) × (r ≡ s)
first_line [] [] r s p q e = (refl, cc)
first_line [] (y ∷ b) r s p q e = let same : y ≡ 10 = cc in absurd ((whole_parts y b q).0 same)
first_line (x ∷ a) [] r s p q e = let same : x ≡ 10 = cc in absurd ((whole_parts x a p).0 same)
first_line (x ∷ a) (y ∷ b) r s p q e =
    let rest : ended a ++ r ≡ ended b ++ s = cc in
    let ih = first_line a b r s (whole_parts x a p).1 (whole_parts y b q).1 rest in
    let same : x ≡ y = cc in
    let tail : a ≡ b = ih.0 in
    (cc, ih.1)

some : (a r : List ℕ) → [] ≡ ended a ++ r → ⊥
some [] r e = let z : ◌≡◌ {A = ℕ} 0 1 = cc in omega arith
some (x ∷ a) r e = let z : ◌≡◌ {A = ℕ} 0 1 = cc in omega arith

pub same_lines : (ls ms : List (List ℕ)) → list_all whole ls ≡ true → list_all whole ms ≡ true → flat_map ended ls ≡ flat_map ended ms → ls ≡ ms
same_lines [] [] p q e = refl
same_lines [] (m ∷ ms) p q e = absurd (some m (flat_map ended ms) e)
same_lines (l ∷ ls) [] p q e = absurd (some l (flat_map ended ls) (sym e))
same_lines (l ∷ ls) (m ∷ ms) p q e =
    let at_p = and_parts (whole l) (list_all whole ls) p in
    let at_q = and_parts (whole m) (list_all whole ms) q in
    let split = first_line l m (flat_map ended ls) (flat_map ended ms) at_p.0 at_q.0 e in
    let here : l ≡ m = split.0 in
    let rest : ls ≡ ms = same_lines ls ms at_p.1 at_q.1 split.1 in
    cc

spelled_whole : (k n : ℕ) (acc : List ℕ) → whole acc ≡ true → whole (digits_onto k 10 false n acc) ≡ true
spelled_whole zero n acc p = p
spelled_whole (suc k) n acc p =
    let d = n % 10 in
    let glyph : digit_glyph false d ≢ 10 = cond_both (ltb d 10) (48 + d) (87 + d) (λ x. x ≢ 10) (λ _. omega arith) (λ _. omega arith) in
    let more = and_from (not (eqb (digit_glyph false d) 10)) (whole acc) (ap not (ne_eqb _ _ glyph)) p in
    cond_both (eqb (n / 10) 0) _ _ (λ xs. whole xs ≡ true) (λ _. more) (λ _. spelled_whole k (n / 10) (digit_glyph false d ∷ acc) more)

pub decimal_whole : (n : ℕ) → whole (decimal n) ≡ true
unfolding digits
decimal_whole n = spelled_whole 64 n [] refl

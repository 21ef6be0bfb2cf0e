-- The text tells the number of inputs and the list, line by line.
use Rattle.std.proofs.Common.{◌≡◌, ℕ, ◌<◌, ◌≤◌, true, List, [], ◌∷◌, ◌++◌, map, length, get_or, codes, decimal, sym, refl, ap, ◌∙◌, subst, ap₂, arith}
use Rattle.std.specs.List.{flat_map, list_all}
use Rattle.std.proofs.lemmas.Bool.{and_from}
use Rattle.std.proofs.lemmas.Fmt.{decimal_injective}
use Rattle.std.proofs.lemmas.List.{append_cancel_left, append_cancel_right, length-map, get_or-map, ext_get_or}
use Rattle.cubes.specs.declared.entry.Entry.{Entry}
use Rattle.cubes.specs.Cubes.{care_of, value_of, blank}
use Rattle.listing.specs.Limits.{max_inputs}
use Rattle.pla.specs.declared.position.Position.{Position}
use Rattle.pla.specs.declared.position.Position.TheVariants.{Zero, One, Open}
use Rattle.pla.specs.Telling.{CubesOf, Alike, TextTells}
use Rattle.pla.specs.Text.{character_of, positions, cube_line, line_of, ended, head_lines, lines_of, text_of}
use Rattle.pla.proofs.Breaks.{whole, whole_append, decimal_whole, same_lines}
use Rattle.pla.proofs.Matching.{row_matches, match_holds}
use Rattle.pla.proofs.Positions.{line_care, line_value}

-- ---- no line has a byte 10 inside

characters_whole : (ps : List Position) → whole (map character_of ps) ≡ true
characters_whole [] = refl
characters_whole (Zero ∷ ps) = characters_whole ps
characters_whole (One ∷ ps) = characters_whole ps
characters_whole (Open ∷ ps) = characters_whole ps

cubes_whole : (n : ℕ) (cubes : List Entry) → list_all whole (map (line_of n) cubes ++ codes ".e" ∷ []) ≡ true
cubes_whole n [] = refl
cubes_whole n (e ∷ es) =
    let ps = positions n (care_of e) (value_of e) in
    and_from _ _ (whole_append (map character_of ps) (codes " 1") (characters_whole ps) refl) (cubes_whole n es)

lines_whole : (n : ℕ) (cubes : List Entry) → list_all whole (lines_of n cubes) ≡ true
lines_whole n cubes =
    and_from _ _ (whole_append (codes ".i ") (decimal n) refl (decimal_whole n)) (and_from _ _ (whole_append (codes ".p ") (decimal (length cubes)) refl (decimal_whole (length cubes))) (cubes_whole n cubes))

-- ---- what equal lines tell

alike_lines : (n : ℕ) (xs ys : List Entry) → CubesOf n xs → CubesOf n ys → map (line_of n) xs ≡ map (line_of n) ys → Alike xs ys
alike_lines n xs ys p q e =
    let long : length xs ≡ length ys = sym (length-map xs (line_of n)) ∙ ap length e ∙ length-map ys (line_of n) in (
      long,
      λ i h.
          let there : i < length ys = omega arith in
          let line : line_of n (get_or xs i blank) ≡ line_of n (get_or ys i blank) = sym (get_or-map (line_of n) xs i blank [] h) ∙ ap (λ l. get_or l i []) e ∙ get_or-map (line_of n) ys i blank [] there in
          (line_care n _ _ (p i h) (q i there) line, line_value n _ _ (p i h) (q i there) line),
    )

lines_alike : (n : ℕ) (xs ys : List Entry) → Alike xs ys → map (line_of n) xs ≡ map (line_of n) ys
lines_alike n xs ys alike =
    ext_get_or [] _ _ (length-map xs (line_of n) ∙ alike.0 ∙ sym (length-map ys (line_of n)))
    (λ i h.
    let here : i < length xs = omega (arith, length-map xs (line_of n)) in
    let there : i < length ys = omega (arith, alike.0) in
    get_or-map (line_of n) xs i blank [] here ∙ ap₂ (cube_line n) (alike.1 i here).0 (alike.1 i here).1 ∙ sym (get_or-map (line_of n) ys i blank [] there))

-- ---- the law

same_list : (n m : ℕ) (xs ys : List Entry) → n ≤ max_inputs → m ≤ max_inputs → CubesOf n xs → CubesOf m ys → text_of n xs ≡ text_of m ys → (n ≡ m) × Alike xs ys
unfolding text_of
same_list n m xs ys few few' p q e =
    let lines : lines_of n xs ≡ lines_of m ys = same_lines (lines_of n xs) (lines_of m ys) (lines_whole n xs) (lines_whole m ys) e in
    let inputs : codes ".i " ++ decimal n ≡ codes ".i " ++ decimal m = cc in
    let cubes : map (line_of n) xs ++ codes ".e" ∷ [] ≡ map (line_of m) ys ++ codes ".e" ∷ [] = cc in
    let same : n ≡ m = decimal_injective n m (omega arith) (omega arith) (append_cancel_left (codes ".i ") _ _ inputs) in
    let P : ℕ → Type 0 = λ k. CubesOf k ys → map (line_of n) xs ++ codes ".e" ∷ [] ≡ map (line_of k) ys ++ codes ".e" ∷ [] → Alike xs ys in
    (same, subst P same (λ q r. alike_lines n xs ys p q (append_cancel_right _ _ (codes ".e" ∷ []) r)) q cubes)

same_text : (n m : ℕ) (xs ys : List Entry) → n ≡ m → Alike xs ys → text_of n xs ≡ text_of m ys
unfolding text_of
same_text n m xs ys same alike =
    ap (λ k. text_of k xs) same
    ∙ ap₂ (λ count lines. flat_map ended (head_lines m count ++ (lines ++ codes ".e" ∷ []))) alike.0 (lines_alike m xs ys alike)

pub tells : TextTells
tells =
    record {
      list = λ n m xs ys few few' p q. (same_list n m xs ys few few' p q, λ r. same_text n m xs ys r.0 r.1);
      rows = λ n cube row p below. (row_matches n cube row p, match_holds n cube row p below);
    }

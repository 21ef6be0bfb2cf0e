-- The text in its parts, and how long each is.
use Rattle.std.proofs.Common.{◌≡◌, ℕ, zero, suc, ◌+◌, ◌-◌, ◌*◌, ◌^◌, ◌<◌, ◌≤◌, List, [], ◌∷◌, ◌++◌, map, length, get_or, drop, codes, decimal, sym, refl, ap, ◌∙◌, ap₂, append_assoc, suc-mul, arith, length-append}
use Rattle.std.proofs.lemmas.Grind.{flat_map-append}
use Rattle.std.proofs.lemmas.List.{append-nil, at_drop_more, at_drop_all}
use Rattle.cubes.specs.declared.entry.Entry.{Entry}
use Rattle.cubes.specs.Cubes.{care_of, value_of, blank}
use Rattle.pla.proofs.Decimals.{length_most}
use Rattle.pla.specs.Text.{character_of, position_at, cube_line, line_of, ended, head, head_lines, cube_lines, text_of}

pub length_line : (n care value : ℕ) → length (ended (cube_line n care value)) ≡ n + 3
length_line zero care value = refl
length_line (suc n) care value = omega (arith, length_line n care value)

pub length_lines : (n : ℕ) (cubes : List Entry) → length (cube_lines n cubes) ≡ length cubes * (n + 3)
unfolding cube_lines
length_lines n [] = omega arith
length_lines n (cube ∷ cubes) =
    length-append (ended (line_of n cube)) (cube_lines n cubes)
    ∙ omega (arith, length_line n (care_of cube) (value_of cube), length_lines n cubes, suc-mul (length cubes) (n + 3))

-- the lines of the cubes from place i on, and the end
abbrev pub lines_from : ℕ → List Entry → ℕ → List ℕ
lines_from n cubes i = cube_lines n (drop i cubes) ++ codes ".e\n"

pub text_parts : (n : ℕ) (cubes : List Entry) → text_of n cubes ≡ head n (length cubes) ++ lines_from n cubes 0
unfolding text_of head cube_lines
text_parts n cubes =
    flat_map-append ended (head_lines n (length cubes)) (map (line_of n) cubes ++ codes ".e" ∷ [])
    ∙ ap (λ r. head n (length cubes) ++ r) (flat_map-append ended (map (line_of n) cubes) (codes ".e" ∷ []))

pub head_parts : (n count : ℕ) → head n count ≡ codes ".i " ++ (decimal n ++ (codes "\n.o 1\n.p " ++ (decimal count ++ codes "\n")))
unfolding head
head_parts n count =
    ap (λ r. ended (codes ".i " ++ decimal n) ++ (codes ".o 1\n.p " ++ r)) (append-nil (ended (decimal count)))
    ∙ ap (λ r. codes ".i " ++ r) (append_assoc (decimal n) (codes "\n") (codes ".o 1\n.p " ++ ended (decimal count)))

pub length_head : (n count : ℕ) → length (head n count) ≡ 13 + length (decimal n) + length (decimal count)
length_head n count = omega (arith, ap length (head_parts n count), length-append {A = ℕ})

pub length_head_le : (n count : ℕ) → n < 2 ^ 64 → count < 2 ^ 64 → length (head n count) ≤ 53
length_head_le n count small few = omega (arith, length_head n count, length_most n small, length_most count few)

-- input 1 is the highest of the n bits
pub line_more : (n care value input character : ℕ) → 1 ≤ input → input ≤ n → character ≡ character_of (position_at care value (n - input)) → ended (cube_line (n + 1 - input) care value) ≡ character ∷ ended (cube_line (n + 1 - (input + 1)) care value)
line_more n care value input character low high is =
    let line : ℕ → List ℕ = λ k. ended (cube_line k care value) in
    let here : n + 1 - input ≡ suc (n - input) = omega arith in
    let next : n - input ≡ n + 1 - (input + 1) = omega arith in
    ap line here ∙ ap₂ (λ x k. x ∷ line k) (sym is) next

pub lines_all : (n : ℕ) (cubes : List Entry) (i : ℕ) → length cubes ≤ i → lines_from n cubes i ≡ codes ".e\n"
unfolding cube_lines
lines_all n cubes i h = ap (λ r. r ++ codes ".e\n") (at_drop_all (cube_lines n) cubes i h)

pub lines_more : (n : ℕ) (cubes : List Entry) (i care value : ℕ) → i < length cubes → care ≡ care_of (get_or cubes i blank) → value ≡ value_of (get_or cubes i blank)
    → lines_from n cubes i ≡ ended (cube_line n care value) ++ lines_from n cubes (i + 1)
unfolding cube_lines
lines_more n cubes i care value h c v =
    let rest = cube_lines n (drop (i + 1) cubes) in
    let line = ended (cube_line n care value) in
    ap (λ r. r ++ codes ".e\n") (at_drop_more (cube_lines n) cubes i blank h ∙ sym (ap₂ (λ x y. ended (cube_line n x y) ++ rest) c v)) ∙ append_assoc line rest (codes ".e\n")

pub length_rest : (n : ℕ) (cubes : List Entry) → length (lines_from n cubes 0) ≡ length cubes * (n + 3) + 3
length_rest n cubes = length-append (cube_lines n cubes) (codes ".e\n") ∙ ap (λ k. k + 3) (length_lines n cubes)

-- the length that is worked out before the text is written
pub text_size : (n : ℕ) (cubes : List Entry) (first : List ℕ) → first ≡ head n (length cubes) → length first + length cubes * (n + 3) + 3 ≡ length (text_of n cubes)
text_size n cubes first e =
    omega (arith, ap length e, length_rest n cubes, length-append (head n (length cubes)) (lines_from n cubes 0), ap length (text_parts n cubes))

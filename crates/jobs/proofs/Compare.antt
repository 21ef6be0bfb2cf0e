-- Two texts of one mode are equal exactly when they tell the same solutions. Assumes nothing.
use Rattle.std.proofs.Common.{◌≡◌, ℕ, ◌^◌, ◌<◌, ◌≤◌, Bool, not, ◌&&◌, List, [], map, length, get_or, take, Some, sym, ap, ◌∙◌, subst, ap₂, arith}
use lib.Bits.{bit_and, and_self}
use Rattle.std.proofs.lemmas.List.{length-map, get_or-map, ext_get_or}
use Rattle.cubes.specs.declared.cube.Cube.{Cube}
use Rattle.cubes.specs.Cubes.{care_of, value_of, blank}
use Rattle.cubes.proofs.Bits.{and_assoc}
use Rattle.listing.specs.declared.mode.Mode.{Mode}
use Rattle.circuit.specs.Limits.{max_inputs}
use Rattle.listing.specs.Calls.{allowed, listed_of}
use Rattle.listing.specs.Stories.{cube_of}
use Rattle.listing.specs.Theorem.{in_some, unwaived, at}
use Rattle.listing.proofs.Chain.{Chain}
use Rattle.listing.proofs.Goodness.{widest_fits}
use Rattle.listing.proofs.Lists.{cube_same}
use Rattle.listing.proofs.Main.{stories_hold}
use Rattle.listing.proofs.Steps.{story_kept}
use Rattle.listing.proofs.Words.{word_low}
use Rattle.pla.specs.Telling.{CubeOf, CubesOf, Alike}
use Rattle.pla.specs.Text.{text_of}
use Rattle.pla.proofs.Telling.{tells}
use Rattle.jobs.specs.Told.{Tells, TextsCompare}

-- ---- a listed cube's entry has the cube's numbers

care_of_lem : (q : Cube) → care_of (listed_of q) ≡ q.care
care_of_lem q = word_low 2 q.care q.numbers.0

value_of_lem : (q : Cube) → value_of (listed_of q) ≡ q.value
value_of_lem q = word_low 3 q.value q.numbers.1

entry_at : (cs : List Cube) (i : ℕ) → i < length cs → get_or (map listed_of cs) i blank ≡ listed_of (at cs i)
entry_at cs i l = get_or-map listed_of cs i (cube_of blank) blank l

-- ---- the cubes of a list are cubes of its inputs

cube_of_lem : (n : ℕ) (q : Cube) → q.care < 2 ^ n → bit_and q.value q.care ≡ q.value → CubeOf n (listed_of q)
cube_of_lem n q low inside =
    record {
      inside = ap₂ bit_and (value_of_lem q) (care_of_lem q) ∙ inside ∙ sym (value_of_lem q);
      below = subst (λ (c : ℕ). c < 2 ^ n) (sym (care_of_lem q)) low;
    }

chain_cubes : (n : ℕ) (mode : Mode) (U : ℕ → Bool) (cs : List Cube) → Chain n mode U cs → CubesOf n (map listed_of cs)
chain_cubes n mode U cs chain i l =
    let here : i < length cs = omega (arith, length-map cs listed_of) in
    let f = chain i here in
    let q : Cube = at cs i in
    subst (CubeOf n) (sym (entry_at cs i here))
    (cube_of_lem n q
    (subst (λ (c : ℕ). c < 2 ^ n) (sym f.care) (widest_fits n (allowed mode U (in_some (take i cs))) f.row).0)
    (ap (λ (x : ℕ). bit_and x q.care) f.value ∙ and_assoc f.row q.care q.care ∙ ap (bit_and f.row) (and_self q.care) ∙ sym f.value))

-- ---- entries that are alike are of the same cubes

alike_cubes : (cs ds : List Cube) → Alike (map listed_of cs) (map listed_of ds) → cs ≡ ds
alike_cubes cs ds alike =
    let long : length cs ≡ length ds = sym (length-map cs listed_of) ∙ alike.0 ∙ length-map ds listed_of in
    ext_get_or (cube_of blank) cs ds long
    (λ i l.
    let there : i < length ds = omega arith in
    let both = alike.1 i (omega (arith, length-map cs listed_of)) in
    let care : care_of (listed_of (at cs i)) ≡ care_of (listed_of (at ds i)) = sym (ap care_of (entry_at cs i l)) ∙ both.0 ∙ ap care_of (entry_at ds i there) in
    let value : value_of (listed_of (at cs i)) ≡ value_of (listed_of (at ds i)) = sym (ap value_of (entry_at cs i l)) ∙ both.1 ∙ ap value_of (entry_at ds i there) in
    cube_same (at cs i) (at ds i) (sym (care_of_lem (at cs i)) ∙ care ∙ care_of_lem (at ds i)) (sym (value_of_lem (at cs i)) ∙ value ∙ value_of_lem (at ds i)))

-- ---- of one told list

module _ (n : ℕ) (S : ℕ → Bool) (mode : ℕ) (text : List ℕ) (t : Tells n S mode text) where
  told_cubes : CubesOf n (map listed_of t.cubes)
  told_cubes =
      subst (λ (k : ℕ). CubesOf k (map listed_of t.cubes)) t.inputs_are
      (chain_cubes t.end.listing.draft.arity.inputs t.end.listing.draft.mode (unwaived S []) t.cubes (story_kept n S t.story).0.chain)

  few_inputs : n ≤ max_inputs
  few_inputs = subst (λ (k : ℕ). k ≤ max_inputs) t.inputs_are t.end.listing.draft.arity.limits.1

-- ---- of two

module _ (n m : ℕ) (S S' : ℕ → Bool) (mode : ℕ) (text text' : List ℕ) (t : Tells n S mode text) (t' : Tells m S' mode text') where
  same_mode : t.end.listing.draft.mode ≡ t'.end.listing.draft.mode
  same_mode = let both : Some t.end.listing.draft.mode ≡ Some t'.end.listing.draft.mode = sym t.mode_is ∙ t'.mode_is in cc

  -- equal texts are of equal lists
  text_cubes : text ≡ text' → (n ≡ m) × (t.cubes ≡ t'.cubes)
  text_cubes e =
      let texts = sym t.written ∙ e ∙ t'.written in
      let both =
      (tells.list n m (map listed_of t.cubes) (map listed_of t'.cubes) (few_inputs n S mode text t) (few_inputs m S' mode text' t')
      (told_cubes n S mode text t) (told_cubes m S' mode text' t')).0 texts in
      (both.0, alike_cubes t.cubes t'.cubes both.1)

  text_rows : text ≡ text' → (n ≡ m) × ((row : ℕ) → row < 2 ^ n → S row ≡ S' row)
  text_rows e =
      let both = text_cubes e in (
        both.0,
        λ row low.
            sym (t.exact row low) ∙ ap (λ (cs : List Cube). in_some cs row) both.1
            ∙ t'.exact row (subst (λ (k : ℕ). row < 2 ^ k) both.0 low),
      )

  rows_text : n ≡ m → ((row : ℕ) → row < 2 ^ n → S row ≡ S' row) → text ≡ text'
  rows_text inputs rows =
      let arities : t.end.listing.draft.arity.inputs ≡ t'.end.listing.draft.arity.inputs = t.inputs_are ∙ inputs ∙ sym t'.inputs_are in
      let cubes : t.cubes ≡ t'.cubes =
      (stories_hold.equal_lists n S t.end t.register [] t.cubes t.story m S' t'.end t'.register [] t'.cubes t'.story same_mode arities).1
      (λ row low. ap (λ (b : Bool). b && not (in_some [] row)) (rows row (subst (λ (k : ℕ). row < 2 ^ k) t.inputs_are low))) in
      t.written ∙ ap₂ (λ (k : ℕ) (cs : List Cube). text_of k (map listed_of cs)) inputs cubes ∙ sym t'.written

pub compared : TextsCompare
compared file file' words words' mode text text' t t' = (
  text_rows _ _ _ _ mode text text' t.list t'.list,
  λ same. rows_text _ _ _ _ mode text text' t.list t'.list same.0 same.1,
)

-- Two chains of the same unwaived rows that have come to their ends are equal, and a chain can be made one cube longer.
use Rattle.std.proofs.Common.{◌≡◌, ℕ, zero, suc, ◌^◌, ◌<◌, ◌≤◌, Bool, List, [], ◌∷◌, ◌++◌, length, take, None, sym, refl, ◌∙◌, ap₂, inl, inr, arith, length-append, take_all, take-suc, take_at}
use lib.ListN.{get_or-append}
use lib.Seq.{take-length, take-append-le, get_or_at}
use Rattle.std.proofs.lemmas.Bool.{cases_lt, cases_order}
use Rattle.cubes.specs.declared.cube.Cube.{Cube}
use Rattle.cubes.specs.Cubes.{blank}
use Rattle.listing.specs.declared.mode.Mode.{Mode}
use Rattle.listing.specs.Widest.{without, lead}
use Rattle.listing.specs.Stories.{cube_of}
use Rattle.listing.specs.Theorem.{in_some, at}
use Rattle.listing.proofs.Lists.{cube_same}
use Rattle.listing.proofs.Chain.{Chain, Follows, lead_cong, care_cong}

module _ (n : ℕ) (mode : Mode) (U V : ℕ → Bool) (same : (r : ℕ) → r < 2 ^ n → U r ≡ V r) where
  lead_same : (cs : List Cube) → lead n (without U (in_some cs)) ≡ lead n (without V (in_some cs))
  lead_same cs = lead_cong n U V _ _ same (λ _. refl)

  -- the first i cubes
  prefix : (cs ds : List Cube) → Chain n mode U cs → Chain n mode V ds → (i : ℕ) → i ≤ length cs → i ≤ length ds → take i cs ≡ take i ds
  prefix cs ds chain chain' zero l k = refl
  prefix cs ds chain chain' (suc i) l k =
      let ih : take i cs ≡ take i ds = prefix cs ds chain chain' i (omega arith) (omega arith) in
      let f = chain i l in
      let g = chain' i k in
      let leads = rw (lead_same (take i cs), ih) at f.leads in
      let rows : f.row ≡ g.row = cc (leads, g.leads) in
      let cares : (at cs i).care ≡ (at ds i).care = f.care ∙ care_cong n U V _ _ same (λ _. refl) mode f.row ∙ rw (ih, rows) (sym g.care) in
      let cube : at cs i ≡ at ds i = cube_same (at cs i) (at ds i) cares (f.value ∙ rw (rows, cares) (sym g.value)) in
      take-suc cs i (cube_of blank) l ∙ ap₂ (λ (xs : List Cube) (q : Cube). xs ++ q ∷ []) ih cube ∙ sym (take-suc ds i (cube_of blank) k)

  -- the first cannot end before the second
  not_shorter : (cs ds : List Cube) → Chain n mode U cs → Chain n mode V ds → lead n (without U (in_some cs)) ≡ None → length cs < length ds → ⊥
  not_shorter cs ds chain chain' ends l =
      let e : cs ≡ take (length cs) ds = sym (take-length cs) ∙ prefix cs ds chain chain' (length cs) (omega arith) (omega arith) in
      let none = rw lead_same at ends in
      let some = rw (← e) at (chain' (length cs) l).leads in
      absurd (cc (none, some))

pub same_chains : (n : ℕ) (mode : Mode) (U V : ℕ → Bool) → ((r : ℕ) → r < 2 ^ n → U r ≡ V r) → (cs ds : List Cube)
    → Chain n mode U cs → Chain n mode V ds → lead n (without U (in_some cs)) ≡ None → lead n (without V (in_some ds)) ≡ None → cs ≡ ds
same_chains n mode U V same cs ds chain chain' ends ends' =
    elim (cases_order (length cs) (length ds)) [
      | inl e ↦ sym (take-length cs) ∙ prefix _ _ _ _ same cs ds chain chain' (length cs) (omega arith) (omega arith) ∙ take_all (length cs) ds (omega arith)
      | inr (inl l) ↦ absurd (not_shorter _ _ _ _ same cs ds chain chain' ends l)
      | inr (inr l) ↦ absurd (not_shorter _ _ _ _ (λ r k. sym (same r k)) ds cs chain' chain ends' l)
    ]

pub chain_push : (n : ℕ) (mode : Mode) (U : ℕ → Bool) (cs : List Cube) (q : Cube) → Chain n mode U cs → Follows n mode U cs q → Chain n mode U (cs ++ q ∷ [])
chain_push n mode U cs q chain f i l =
    elim (cases_lt i (length cs)) [
      | inl k ↦ rw (take-append-le i cs (q ∷ []) (omega arith), get_or-append cs (q ∷ []) (cube_of blank) i k) (chain i k)
      | inr k ↦ (let e : length cs ≡ i = omega (arith, simp length-append at l) in
          rw (take_at cs (q ∷ []) i e, get_or_at cs q [] (cube_of blank) i e) f)
    ]

-- Every story keeps what `Kept` says, call by call.
use Rattle.std.proofs.Common.{◌≡◌, ℕ, ◌^◌, ◌<◌, ◌≤◌, Bool, false, not, eqb, ltb, List, [], ◌∷◌, ◌++◌, length, get_or, take, drop, set, Some, None, Ok, Err, Option, Result, refl, subst, arith, length-take, take-append-drop, get_or-set_same}
use Rattle.std.proofs.lemmas.Bool.{cond_both, ltb-false, eqb-true, not-false}
use Rattle.std.proofs.lemmas.Bool.Decides.{nat_tests}
use Rattle.faults.specs.declared.listing.ListingFault.{ListingFault}
use Rattle.cubes.specs.declared.cube.Cube.{Cube}
use Rattle.cubes.specs.declared.entry.Entry.{Entry}
use Rattle.cubes.specs.Cubes.{held, blank}
use Rattle.listing.specs.declared.arity.Arity.{Arity}
use Rattle.listing.specs.declared.mode.Mode.{Mode}
use Rattle.listing.specs.declared.states.Draft.{Draft}
use Rattle.listing.specs.declared.states.Running.{Running}
use Rattle.listing.specs.declared.states.Step.{Step}
use Rattle.listing.specs.declared.states.Step.TheVariants.{Listed, Ended}
use Rattle.listing.specs.declared.states.Refusal.{Refusal}
use Rattle.listing.specs.Widest.{without, lead, widest}
use Rattle.listing.specs.Calls.{mode_of, arity_of, drafted, room, waiver_of, one_waiver, waived, entries, waivers_in, cubes_in, allowed, entry_around, led, nexted}
use Rattle.listing.specs.Stories.{Listing, cube_of, Means, Story, opens, waives, waives_not, begins, lists, ends, nexts_not, reopens, reopens_finished}
use Rattle.listing.specs.Theorem.{in_some, unwaived}
use Rattle.listing.proofs.Chain.{lead_cong, care_cong}
use Rattle.listing.proofs.Words.{held_entries, written, front_waivers, front_cubes}
use Rattle.listing.proofs.Kept.{Kept, KeptBy, Ends, kept_waive, kept_list, kept_reopen}

-- a call that alters no entry
unaltered : {S : ℕ → Bool} {d : Draft} {c : ℕ} {ws cs : List Cube} (k : ℕ) (reg : List Entry) → Kept S d c reg ws cs → Kept S d c (take k reg ++ drop k reg) ws cs
unaltered k reg v = rw take-append-drop v

room_free : (used : ℕ) (f : List Entry) → not (room used f) ≡ false → used < length f
room_free used f e = grind (arith, nat_tests)

-- ---- waive

module _ (S : ℕ → Bool) (d d' : Draft) (reg front : List Entry) (ws cs : List Cube) (v : Kept S d 0 reg ws cs) (k : ℕ) (q : Cube) where
  after_waive : waived d (take k reg) q ≡ (Ok tt, d', front) → Kept S d' 0 (front ++ drop k reg) (ws ++ q ∷ []) cs
  after_waive e =
      let p : (d.waivers < length (take k reg)) × (d' ≡ one_waiver d) × (front ≡ set (take k reg) d.waivers (waiver_of q)) = grind (arith, nat_tests) in
      rw (p.1, p.2, written k d.waivers reg (waiver_of q) p.0) (kept_waive S d reg ws cs v q (omega (arith, length-take k reg)))

  after_no_waive : (fault : ListingFault) → waived d (take k reg) q ≡ (Err fault, d', front) → Kept S d' 0 (front ++ drop k reg) ws cs
  after_no_waive fault e =
      let p : (d' ≡ d) × (front ≡ take k reg) = grind arith in rw (p.0, p.1) (unaltered k reg v)

-- ---- next

module _ (S : ℕ → Bool) (l : Running) (reg : List Entry) (ws cs : List Cube) (k : ℕ) where
  abbrev AfterNext : (Result Step Refusal × List Entry) → Type 0
  AfterNext (Ok (Listed l'), front) = Kept S l'.draft l'.cubes (front ++ drop k reg) ws (cs ++ cube_of (get_or front (entries l) blank) ∷ [])
  AfterNext (Ok (Ended f), front) = Kept S f.listing.draft f.listing.cubes (front ++ drop k reg) ws cs × Ends S f.listing.draft ws cs
  AfterNext (Err refusal, front) = Kept S refusal.listing.draft refusal.listing.cubes (front ++ drop k reg) ws cs

  module _ (v : Kept S l.draft l.cubes reg ws cs) (D : ℕ → Bool) (same : Means l.draft.arity.inputs S D)
      (enough : entries l ≤ length (take k reg)) where
    abbrev U : ℕ → Bool
    U = without D (held (waivers_in l (take k reg)))

    abbrev C : ℕ → Bool
    C = held (cubes_in l (take k reg))

    wanted_is : (r : ℕ) → r < 2 ^ l.draft.arity.inputs → U r ≡ unwaived S ws r
    wanted_is r h = rw (front_waivers l.draft.waivers l.cubes k reg enough, v.waivers, held_entries 1 ws r, same r h) refl

    covered_is : (r : ℕ) → C r ≡ in_some cs r
    covered_is r = rw (front_cubes l.draft.waivers l.cubes k reg enough, v.cubes, held_entries 2 cs r) refl

    after_lead : (o : Option ℕ) → lead l.draft.arity.inputs (without (unwaived S ws) (in_some cs)) ≡ o → AfterNext (led l (take k reg) U C o)
    after_lead None e = (unaltered k reg v, e)
    after_lead (Some row) e =
        let f : List Entry = take k reg in
        let entry : Entry = entry_around row (widest l.draft.arity.inputs (allowed l.draft.mode U C) row) in
        cond_both (not (room (entries l) f)) _ _ AfterNext (λ _. unaltered k reg v)
        (λ free. let p = room_free (entries l) f free in
        rw (written k (entries l) reg entry p, get_or-set_same f (entries l) entry blank p)
        (kept_list S l.draft reg ws cs l.cubes v row _ (omega (arith, length-take k reg)) e (care_cong _ _ _ _ _ wanted_is covered_is l.draft.mode row)))

  after_next : (N : ℕ) (D : ℕ → Bool) → Kept S l.draft l.cubes reg ws cs → Means N S D → AfterNext (nexted l N D (take k reg))
  after_next N D v means =
      let f : List Entry = take k reg in
      let n : ℕ = l.draft.arity.inputs in
      cond_both (ltb (length f) (entries l)) _ _ AfterNext (λ _. unaltered k reg v)
      (λ long. cond_both (not (eqb N n)) _ _ AfterNext (λ _. unaltered k reg v)
      (λ same. let enough = ltb-false (length f) (entries l) long in
      let rows : Means n S D = rw (eqb-true N n (not-false (eqb N n) same)) at means in
      rw (lead_cong n _ _ _ _ (wanted_is v D rows enough) (covered_is v D rows enough)) (after_lead v D rows enough (lead n (without (unwaived S ws) (in_some cs))) refl)))

-- ---- open

no_waivers : (mode : Option Mode) (arity : Option Arity) (d : Draft) → drafted mode arity ≡ Ok d → d.waivers ≡ 0
no_waivers None arity d e = absurd (cc)
no_waivers (Some mode) None d e = absurd (cc)
no_waivers (Some mode) (Some arity) d e = let f : record { arity = arity; mode = mode; waivers = 0 } ≡ d = cc in cc

-- ---- stories

pub story_kept : (N : ℕ) (S : ℕ → Bool) {l : Listing} {reg : List Entry} {ws cs : List Cube} → Story N S l reg ws cs → KeptBy S l reg ws cs
story_kept N S (opens mode n d reg e) =
    let w = no_waivers (mode_of mode) (arity_of n) d e in
    record { room = omega arith; waivers = rw w refl; cubes = refl; chain = λ i h. absurd (omega arith) }
story_kept N S (waives s k q e) = after_waive S _ _ _ _ _ _ (story_kept N S s) k q e
story_kept N S (waives_not s k q fault e) = after_no_waive S _ _ _ _ _ _ (story_kept N S s) k q fault e
story_kept N S (begins s) = story_kept N S s
story_kept N S (lists {l = l} s k D same e) = subst (AfterNext S l _ _ _ k) e (after_next S l _ _ _ k N D (story_kept N S s) same)
story_kept N S (ends {l = l} s k D same e) = subst (AfterNext S l _ _ _ k) e (after_next S l _ _ _ k N D (story_kept N S s) same)
story_kept N S (nexts_not {l = l} s k D same refusal e) = subst (AfterNext S l _ _ _ k) e (after_next S l _ _ _ k N D (story_kept N S s) same)
story_kept N S (reopens s) = kept_reopen S _ _ _ _ _ (story_kept N S s)
story_kept N S (reopens_finished s) = kept_reopen S _ _ _ _ _ (story_kept N S s).0

-- What every story keeps: the register holds its waivers and its list, and the list is a chain; one more of either keeps it.
use Rattle.std.proofs.Common.{◌≡◌, ℕ, ◌+◌, ◌^◌, ◌<◌, ◌≤◌, Bool, List, [], ◌∷◌, ◌++◌, map, length, take, drop, set, Some, None, refl, ◌∙◌, arith, length-drop, length-set, pow_mono}
use lib.Bits.{bit_and, and_le_r}
use lib.Seq.{take-set-le, drop-set-add}
use Rattle.std.proofs.lemmas.List.{map_push, take_more_set}
use Rattle.cubes.specs.declared.cube.Cube.{Cube}
use Rattle.cubes.specs.declared.entry.Entry.{Entry}
use Rattle.listing.specs.declared.states.Draft.{Draft}
use Rattle.listing.specs.Widest.{without, lead, widest}
use Rattle.listing.specs.Calls.{waiver_of, listed_of, one_waiver, allowed, entry_around}
use Rattle.listing.specs.Stories.{Listing, draft, running, finished, cube_of}
use Rattle.listing.specs.Theorem.{in_some, unwaived}
use Rattle.listing.proofs.Goodness.{widest_fits}
use Rattle.listing.proofs.Chain.{Chain}
use Rattle.listing.proofs.Same.{chain_push}
use Rattle.listing.proofs.Words.{word_low}

-- a draft with its waivers and c cubes
pub record Kept (S : ℕ → Bool) (d : Draft) (c : ℕ) (reg : List Entry) (ws cs : List Cube) : Type 0 where
  pub room : d.waivers + c ≤ length reg
  pub waivers : take d.waivers reg ≡ map waiver_of ws
  pub cubes : take c (drop d.waivers reg) ≡ map listed_of cs
  pub chain : Chain d.arity.inputs d.mode (unwaived S ws) cs

-- no unwaived solution is left outside the list
abbrev pub Ends : (ℕ → Bool) → Draft → List Cube → List Cube → Type 0
Ends S d ws cs = lead d.arity.inputs (without (unwaived S ws) (in_some cs)) ≡ None

abbrev pub KeptBy : (ℕ → Bool) → Listing → List Entry → List Cube → List Cube → Type 0
KeptBy S (draft d) reg ws cs = Kept S d 0 reg ws cs
KeptBy S (running l) reg ws cs = Kept S l.draft l.cubes reg ws cs
KeptBy S (finished f) reg ws cs = Kept S f.listing.draft f.listing.cubes reg ws cs × Ends S f.listing.draft ws cs

no_cubes : (cs : List Cube) → [] ≡ map listed_of cs → cs ≡ []
no_cubes [] e = refl
no_cubes (q ∷ qs) e = absurd (cc)

module _ (S : ℕ → Bool) (d : Draft) (reg : List Entry) (ws cs : List Cube) where
  -- a waiver more
  pub kept_waive : Kept S d 0 reg ws cs → (q : Cube) → d.waivers < length reg
      → Kept S (one_waiver d) 0 (set reg d.waivers (waiver_of q)) (ws ++ q ∷ []) cs
  kept_waive v q h =
      record {
        room = simp length-set (omega arith);
        waivers = rw (take_more_set reg d.waivers (waiver_of q) h, v.waivers, map_push) refl;
        cubes = v.cubes;
        chain = λ i l. absurd (omega (arith, rw (no_cubes cs v.cubes) at l));
      }

  -- a cube more: the widest around the lead
  pub kept_list : (c : ℕ) → Kept S d c reg ws cs → (row care : ℕ) → d.waivers + c < length reg
      → lead d.arity.inputs (without (unwaived S ws) (in_some cs)) ≡ Some row
      → care ≡ widest d.arity.inputs (allowed d.mode (unwaived S ws) (in_some cs)) row
      → Kept S d (c + 1) (set reg (d.waivers + c) (entry_around row care)) ws (cs ++ cube_of (entry_around row care) ∷ [])
  kept_list c v row care h e w =
      let n : ℕ = d.arity.inputs in
      let t : 2 ^ n ≤ 2 ^ 30 = pow_mono d.arity.limits.1 in
      let f = widest_fits n (allowed d.mode (unwaived S ws) (in_some cs)) row in
      let hc : care < 2 ^ 30 = omega arith in
      let hv : bit_and row care < 2 ^ 30 = omega (arith, and_le_r row care) in
      let q : Cube = cube_of (entry_around row care) in
      let lc = word_low 2 care hc in
      let lv = word_low 3 (bit_and row care) hv in
      record {
        room = simp length-set (omega arith);
        waivers = take-set-le d.waivers reg (d.waivers + c) (entry_around row care) (omega arith) ∙ v.waivers;
        cubes =
            rw (drop-set-add d.waivers reg c, take_more_set (drop d.waivers reg) c (entry_around row care) (simp length-drop (omega arith)), v.cubes, map_push)
            (rw (lc, lv) refl);
        chain =
            chain_push n d.mode (unwaived S ws) cs q v.chain
            (record {
              row = row;
              leads = e;
              care = lc ∙ w;
              value = rw lc lv;
            });
      }

  -- no cube
  pub kept_reopen : (c : ℕ) → Kept S d c reg ws cs → Kept S d 0 reg ws []
  kept_reopen c v =
      let h = v.room in record { room = omega arith; waivers = v.waivers; cubes = refl; chain = λ i l. absurd (omega arith) }

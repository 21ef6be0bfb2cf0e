-- What next gives, by what its lead and its widening gave over the front of the register.
use Rattle.std.proofs.Common.{◌≡◌, ℕ, ◌≤◌, Bool, true, false, not, List, length, take, set, Some, None, Ok, Err, Option, sym, refl, ap, ◌∙◌, arith, take-add}
use mathlib.Core.Path.{fun_ext}
use lib.Bits.{bit_and}
use Rattle.std.proofs.lemmas.List.Folds.{list_any-append}
use Rattle.std.proofs.lemmas.Bool.{cond-true, cond-false, le-ltb, eq-eqb}
use Rattle.faults.specs.declared.listing.ListingFault.TheVariants.{RegisterFull}
use Rattle.cubes.specs.declared.entry.Entry.{Entry}
use Rattle.cubes.specs.Cubes.{held, listed_entry}
use Rattle.listing.specs.declared.mode.Mode.{Mode}
use Rattle.listing.specs.declared.mode.Mode.TheVariants.{Separate, Shared}
use Rattle.listing.specs.declared.states.Running.{Running}
use Rattle.listing.specs.declared.states.Step.TheVariants.{Listed, Ended}
use Rattle.listing.specs.declared.states.Refusal.{Refusal}
use Rattle.listing.specs.Widest.{without, lead, widest}
use Rattle.listing.specs.Calls.{room, entries, waivers_in, cubes_in, allowed, one_more, led, nexted}

-- the entries that a new cube must not touch
abbrev pub shut : Running → Mode → ℕ
shut l Separate = entries l
shut l Shared = l.draft.waivers

module _ (l : Running) (S : ℕ → Bool) (reg : List Entry) where
  abbrev unwaived : ℕ → Bool
  unwaived = without S (held (waivers_in l reg))

  abbrev covered : ℕ → Bool
  covered = held (cubes_in l reg)

  -- all entries that are held, at once
  at_once : without S (held (take (entries l) reg)) ≡ without unwaived covered
  at_once = fun_ext (λ r. simp (take-add, list_any-append) (grind arith))

  shut_allows : (mode : Mode) → without S (held (take (shut l mode) reg)) ≡ allowed mode unwaived covered
  shut_allows Separate = at_once
  shut_allows Shared = refl

  -- ---- with a register that is long enough and a decider of as many inputs, by the lead over the first k entries

  module _ (N used k : ℕ) (counted : used ≡ entries l) (long : used ≤ length reg) (same : N ≡ l.draft.arity.inputs) (front : k ≡ used) where
    next_led : (o : Option ℕ) → o ≡ lead l.draft.arity.inputs (without S (held (take k reg))) → nexted l N S reg ≡ led l reg unwaived covered o
    next_led o leads =
        cond-false _ _ _ (le-ltb (length reg) (entries l) (omega arith))
        ∙ cond-false _ _ _ (ap not (eq-eqb N _ same))
        ∙ rw (leads, front, counted, at_once) refl

    pub next_ends : None ≡ lead l.draft.arity.inputs (without S (held (take k reg))) → (Ok (Ended (record { listing = l })), reg) ≡ nexted l N S reg
    next_ends leads = sym (next_led None leads)

    module _ (row : ℕ) (leads : Some row ≡ lead l.draft.arity.inputs (without S (held (take k reg)))) where
      pub next_full : (refusal : Refusal) → room used reg ≡ false → refusal ≡ record { listing = l; fault = RegisterFull used } → (Err refusal, reg) ≡ nexted l N S reg
      next_full refusal full e = rw (e, counted) (sym (next_led (Some row) leads ∙ cond-true _ _ _ (rw counted at (ap not full))))

      pub next_lists : (j care value : ℕ) (S' : ℕ → Bool) (l' : Running) (e : Entry) → room used reg ≡ true → S' ≡ S → j ≡ shut l l.draft.mode
          → care ≡ widest l.draft.arity.inputs (without S' (held (take j reg))) row → value ≡ bit_and row care
          → l' ≡ one_more l → e ≡ listed_entry care value → (Ok (Listed l'), set reg used e) ≡ nexted l N S reg
      next_lists j care value S' l' e free rows ej wide v more written =
          rw (more, written, v, wide, rows, ej, shut_allows l.draft.mode, counted)
          (sym (next_led (Some row) leads ∙ cond-false _ _ _ (rw counted at (ap not free))))

-- A run in a register of so many entries: it is refused only where all of them are used. Assumes nothing.
use Rattle.std.proofs.Common.{◌≡◌, ℕ, zero, suc, ◌+◌, ◌<◌, ◌≤◌, Bool, true, false, not, eqb, ltb, List, length, Some, None, Ok, Err, Option, Result, ap, ◌∙◌, arith, length-set}
use Rattle.std.proofs.lemmas.Bool.{cond_both, ltb-true}
use Rattle.std.proofs.lemmas.Bool.Decides.{nat_tests}
use Rattle.faults.specs.declared.listing.ListingFault.TheVariants.{RegisterFull}
use Rattle.cubes.specs.declared.entry.Entry.{Entry}
use Rattle.cubes.specs.Cubes.{held}
use Rattle.listing.specs.declared.states.Running.{Running}
use Rattle.listing.specs.declared.states.Step.{Step}
use Rattle.listing.specs.declared.states.Step.TheVariants.{Listed, Ended}
use Rattle.listing.specs.declared.states.Refusal.{Refusal}
use Rattle.listing.specs.Limits.{max_entries}
use Rattle.listing.specs.Widest.{without, lead, widest}
use Rattle.listing.specs.Calls.{room, entries, waivers_in, cubes_in, allowed, entry_around, led, nexted}
use Rattle.jobs.specs.Lists.{Run, stepped, run_of}

-- the list lies in the register, or all its entries are used
abbrev pub Within : ℕ → Run → Type 0
Within size (Ok f, register) = (length register ≡ size) × (entries f.listing ≤ size)
Within size (Err fault, register) = fault ≡ RegisterFull size

-- all entries are used where no further one is free
all_used : (used size : ℕ) (register : List Entry) → size ≤ max_entries → length register ≡ size → used ≤ size → not (room used register) ≡ true → used ≡ size
all_used used size register few whole within full = grind (arith, nat_tests)

some_free : (used : ℕ) (register : List Entry) → not (room used register) ≡ false → used < length register
some_free used register free = grind (arith, nat_tests)

module _ (n size : ℕ) (solutions : ℕ → Bool) (few : size ≤ max_entries) where
  -- a listing by the decider, and nexts enough to use every entry
  record Going (nexts : ℕ) (l : Running) (register : List Entry) : Type 0 where
    whole : length register ≡ size
    used : entries l ≤ size
    left : size < entries l + nexts
    same : n ≡ l.draft.arity.inputs

  abbrev Goes : ℕ → Result Step Refusal × List Entry → Type 0
  Goes nexts (Ok (Listed l), register) = Going nexts l register
  Goes nexts (Ok (Ended f), register) = (length register ≡ size) × (entries f.listing ≤ size)
  Goes nexts (Err refusal, register) = refusal.fault ≡ RegisterFull size

  module _ (nexts : ℕ) (l : Running) (register : List Entry) (g : Going (suc nexts) l register) where
    led_goes : (unwaived covered : ℕ → Bool) (o : Option ℕ) → Goes nexts (led l register unwaived covered o)
    led_goes unwaived covered None = (g.whole, g.used)
    led_goes unwaived covered (Some row) =
        let entry = entry_around row (widest l.draft.arity.inputs (allowed l.draft.mode unwaived covered) row) in
        cond_both (not (room (entries l) register)) _ _ (Goes nexts)
        (λ full. ap RegisterFull (all_used (entries l) size register few g.whole g.used full))
        (λ free. record {
          whole = length-set register (entries l) entry ∙ g.whole;
          used = omega (arith, some_free (entries l) register free, g.whole);
          left = omega (arith, g.left);
          same = g.same;
        })

    next_goes : Goes nexts (nexted l n solutions register)
    next_goes =
        let unwaived : ℕ → Bool = without solutions (held (waivers_in l register)) in
        let covered : ℕ → Bool = held (cubes_in l register) in
        cond_both (ltb (length register) (entries l)) _ _ (Goes nexts)
        (λ short. absurd (omega (arith, ltb-true (length register) (entries l) short, g.whole, g.used)))
        (λ _. cond_both (not (eqb n l.draft.arity.inputs)) _ _ (Goes nexts)
        (λ other. let same = g.same in absurd (grind (arith, nat_tests)))
        (λ _. led_goes unwaived covered (lead l.draft.arity.inputs (without unwaived covered))))

  stepped_within : (nexts : ℕ) (more : Running → List Entry → Run) → ((l : Running) (register : List Entry) → Going nexts l register → Within size (more l register))
      → (p : Result Step Refusal × List Entry) → Goes nexts p → Within size (stepped more p)
  stepped_within nexts more rest (Ok (Listed l), register) goes = rest l register goes
  stepped_within nexts more rest (Ok (Ended f), register) goes = goes
  stepped_within nexts more rest (Err refusal, register) goes = goes

  run_goes : (nexts : ℕ) (l : Running) (register : List Entry) → Going nexts l register → Within size (run_of nexts n solutions l register)
  unfolding run_of
  run_goes zero l register g = absurd (omega (arith, g.used, g.left))
  run_goes (suc nexts) l register g = stepped_within nexts (run_of nexts n solutions) (run_goes nexts) (nexted l n solutions register) (next_goes nexts l register g)

  pub run_within : (nexts : ℕ) (l : Running) (register : List Entry) → length register ≡ size → entries l ≤ size → size < entries l + nexts → n ≡ l.draft.arity.inputs
      → Within size (run_of nexts n solutions l register)
  run_within nexts l register whole used left same = run_goes nexts l register (record { whole = whole; used = used; left = left; same = same })

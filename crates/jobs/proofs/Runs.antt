-- A run by its first next, and that its nexts are enough. Assumes nothing.
use Rattle.std.proofs.Common.{◌≡◌, ℕ, zero, suc, ◌+◌, ◌<◌, ◌≤◌, Bool, not, eqb, ltb, List, length, Some, None, Ok, Err, Option, Result, sym, refl, ap, ◌∙◌, subst, ap₂, arith}
use Rattle.std.proofs.lemmas.Bool.{cond_both, ltb-true, eqb-true, and_parts, not-false}
use Rattle.cubes.specs.declared.entry.Entry.{Entry}
use Rattle.cubes.specs.Cubes.{held}
use Rattle.cubes.specs.Deciders.{Kept}
use Rattle.listing.specs.declared.states.Running.{Running}
use Rattle.listing.specs.declared.states.Finished.{Finished}
use Rattle.listing.specs.declared.states.Step.{Step}
use Rattle.listing.specs.declared.states.Step.TheVariants.{Listed, Ended}
use Rattle.listing.specs.declared.states.Refusal.{Refusal}
use Rattle.listing.specs.Limits.{max_entries}
use Rattle.listing.specs.Widest.{without, lead}
use Rattle.listing.specs.Calls.{room, entries, waivers_in, cubes_in, one_more, led, nexted}
use Rattle.jobs.specs.Lists.{stepped, run_of, most_nexts}

-- ---- a next that lists has one cube more, and had an entry for it; one that ends alters nothing, and has the decider's inputs

abbrev pub Nexted : Running → ℕ → Result Step Refusal × List Entry → Type 0
Nexted l n (Ok (Listed l'), register) = (l' ≡ one_more l) × (entries l < max_entries)
Nexted l n (Ok (Ended f), register) = (f.listing ≡ l) × (n ≡ l.draft.arity.inputs)
Nexted l n (Err refusal, register) = Unit {0}

after_lead : (l : Running) (n : ℕ) → n ≡ l.draft.arity.inputs → (register : List Entry) (unwaived covered : ℕ → Bool) (o : Option ℕ)
    → Nexted l n (led l register unwaived covered o)
after_lead l n same register unwaived covered None = (refl, same)
after_lead l n same register unwaived covered (Some row) =
    cond_both (not (room (entries l) register)) _ _ (Nexted l n) (λ _. tt)
    (λ free. (refl, ltb-true (entries l) max_entries (and_parts (ltb (entries l) (length register)) (ltb (entries l) max_entries) (not-false (room (entries l) register) free)).1))

pub after_next : (l : Running) (n : ℕ) (solutions : ℕ → Bool) (register : List Entry) → Nexted l n (nexted l n solutions register)
after_next l n solutions register =
    let unwaived : ℕ → Bool = without solutions (held (waivers_in l register)) in
    let covered : ℕ → Bool = held (cubes_in l register) in
    let inputs : ℕ = l.draft.arity.inputs in
    cond_both (ltb (length register) (entries l)) _ _ (Nexted l n) (λ _. tt)
    (λ _. cond_both (not (eqb n inputs)) _ _ (Nexted l n) (λ _. tt)
    (λ same. after_lead l n (eqb-true n inputs (not-false (eqb n inputs) same)) register unwaived covered (lead inputs (without unwaived covered))))

-- ---- the run from a listing on, within the whole run

-- what is left is a run of its own, with nexts enough
pub record Rest (n : ℕ) (solutions : ℕ → Bool) (l₀ : Running) (register₀ : List Entry) (l : Running) (register : List Entry) : Type 0 where
  pub nexts : ℕ
  pub enough : max_entries ≤ entries l + nexts
  pub same : run_of most_nexts n solutions l₀ register₀ ≡ run_of (suc nexts) n solutions l register

-- a next by a decider that has kept its rows
pub asked : {D : Type 0} {arity : D → ℕ} {set : D → ℕ → Bool} {d e : D} {l₀ l : Running} {register₀ register : List Entry} {p : Result Step Refusal × List Entry}
    → Kept arity set d e → Rest (arity d) (set d) l₀ register₀ l register → p ≡ nexted l (arity e) (set e) register → nexted l (arity d) (set d) register ≡ p
asked {D} {arity} {set} {d} {e} {l₀} {l} {register₀} {register} kept _ given =
    ap₂ (λ (n : ℕ) (S : ℕ → Bool). nexted l n S register) (sym kept.inputs) (sym kept.rows) ∙ sym given

run_next : (n : ℕ) (solutions : ℕ → Bool) (nexts : ℕ) (l : Running) (register : List Entry) (p : Result Step Refusal × List Entry)
    → nexted l n solutions register ≡ p → run_of (suc nexts) n solutions l register ≡ stepped (run_of nexts n solutions) p
unfolding run_of
run_next n solutions nexts l register p e = ap (stepped (run_of nexts n solutions)) e

module _ {n : ℕ} {solutions : ℕ → Bool} {l₀ : Running} {register₀ : List Entry} where
  pub rest_all : Rest n solutions l₀ register₀ l₀ register₀
  rest_all = record { nexts = max_entries; enough = omega arith; same = refl }

  module _ {l : Running} {register register' : List Entry} where
    pub rest_ends : {f : Finished} → Rest n solutions l₀ register₀ l register → nexted l n solutions register ≡ (Ok (Ended f), register')
        → run_of most_nexts n solutions l₀ register₀ ≡ (Ok f, register')
    rest_ends rest e = rest.same ∙ run_next n solutions rest.nexts l register _ e

    pub rest_refuses : {refusal : Refusal} → Rest n solutions l₀ register₀ l register → nexted l n solutions register ≡ (Err refusal, register')
        → run_of most_nexts n solutions l₀ register₀ ≡ (Err refusal.fault, register')
    rest_refuses rest e = rest.same ∙ run_next n solutions rest.nexts l register _ e

    pub lists_more : {l' : Running} → Rest n solutions l₀ register₀ l register → nexted l n solutions register ≡ (Ok (Listed l'), register')
        → (l' ≡ one_more l) × (entries l < max_entries)
    lists_more _ e = subst (Nexted l n) e (after_next l n solutions register)

    pub rest_lists : {l' : Running} → Rest n solutions l₀ register₀ l register → nexted l n solutions register ≡ (Ok (Listed l'), register')
        → Rest n solutions l₀ register₀ l' register'
    rest_lists {l'} rest e = go rest.nexts rest.enough rest.same
      where
        more : (l' ≡ one_more l) × (entries l < max_entries)
        more = lists_more rest e

        go : (nexts : ℕ) → max_entries ≤ entries l + nexts → run_of most_nexts n solutions l₀ register₀ ≡ run_of (suc nexts) n solutions l register
            → Rest n solutions l₀ register₀ l' register'
        go zero enough same = let few = more.1 in absurd (omega arith)
        go (suc nexts) enough same =
            let one = ap entries more.0 in
            record { nexts = nexts; enough = omega arith; same = same ∙ run_next n solutions (suc nexts) l register _ e }

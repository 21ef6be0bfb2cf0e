-- A run that finishes goes on with the story of its listing, over the whole register. Assumes nothing.
use Rattle.std.proofs.Common.{◌≡◌, ℕ, zero, suc, Bool, List, [], ◌∷◌, ◌++◌, length, get_or, take, drop, Ok, Err, Result, sym, refl, ap, ◌∙◌, subst, subst₂, append-nil}
use lib.Seq.{take-length, drop-length}
use Rattle.faults.specs.declared.listing.ListingFault.{ListingFault}
use Rattle.cubes.specs.declared.cube.Cube.{Cube}
use Rattle.cubes.specs.declared.entry.Entry.{Entry}
use Rattle.cubes.specs.Cubes.{blank}
use Rattle.listing.specs.declared.states.Draft.{Draft}
use Rattle.listing.specs.declared.states.Running.{Running}
use Rattle.listing.specs.declared.states.Finished.{Finished}
use Rattle.listing.specs.declared.states.Step.{Step}
use Rattle.listing.specs.declared.states.Step.TheVariants.{Listed, Ended}
use Rattle.listing.specs.declared.states.Refusal.{Refusal}
use Rattle.listing.specs.Calls.{entries, nexted}
use Rattle.listing.specs.Stories.{Story, running, finished, cube_of, lists, ends}
use Rattle.jobs.specs.Lists.{Run, stepped, run_of}
use Rattle.jobs.proofs.Runs.{Nexted, after_next}

-- the story of a finished run that began with this draft
pub record Ran (N : ℕ) (S : ℕ → Bool) (d : Draft) (f : Finished) (register : List Entry) : Type 0 where
  pub cubes : List Cube
  pub story : Story N S (finished f) register [] cubes
  pub draft_is : f.listing.draft ≡ d
  pub inputs_are : N ≡ f.listing.draft.arity.inputs

module _ (N : ℕ) (S : ℕ → Bool) where
  -- what is behind the whole register is nothing
  all_of : (register register' : List Entry) → register' ++ drop (length register) register ≡ register'
  all_of register register' = ap (λ (r : List Entry). register' ++ r) (drop-length register) ∙ append-nil register'

  module _ (l : Running) (register register' : List Entry) (cs : List Cube) (s : Story N S (running l) register [] cs) where
    in_whole : (p : Result Step Refusal × List Entry) → nexted l N S register ≡ p → nexted l N S (take (length register) register) ≡ p
    in_whole p e = ap (nexted l N S) (take-length register) ∙ e

    lists_whole : (l' : Running) → nexted l N S register ≡ (Ok (Listed l'), register')
        → Story N S (running l') register' [] (cs ++ cube_of (get_or register' (entries l) blank) ∷ [])
    lists_whole l' e =
        subst (λ (r : List Entry). Story N S (running l') r [] (cs ++ cube_of (get_or register' (entries l) blank) ∷ [])) (all_of register register')
        (lists s (length register) S (λ r _. refl) (in_whole (Ok (Listed l'), register') e))

    ends_whole : (f : Finished) → nexted l N S register ≡ (Ok (Ended f), register') → Story N S (finished f) register' [] cs
    ends_whole f e =
        subst (λ (r : List Entry). Story N S (finished f) r [] cs) (all_of register register')
        (ends s (length register) S (λ r _. refl) (in_whole (Ok (Ended f), register') e))

  module _ (f : Finished) (register'' : List Entry) where
    -- after one next, where the rest of the run is told
    next_told : (more : Running → List Entry → Run)
        → ((l : Running) (register : List Entry) (cs : List Cube) → Story N S (running l) register [] cs → more l register ≡ (Ok f, register'') → Ran N S l.draft f register'')
        → (l : Running) (register : List Entry) (cs : List Cube) → Story N S (running l) register [] cs
        → (p : Result Step Refusal × List Entry) → nexted l N S register ≡ p → Nexted l N p → stepped more p ≡ (Ok f, register'') → Ran N S l.draft f register''
    next_told more rest l register cs s (Ok (Listed l'), register') e more-is run =
        subst (λ (d : Draft). Ran N S d f register'') (ap (λ (k : Running). k.draft) more-is.0) (rest l' register' _ (lists_whole l register register' cs s l' e) run)
    next_told more rest l register cs s (Ok (Ended f'), register') e ended run =
        let oks : ◌≡◌ {A = Result Finished ListingFault} (Ok f') (Ok f) = ap (λ (p : Run). p.0) run in
        let same : f' ≡ f = cc in
        subst₂ (Ran N S l.draft) same (ap (λ (p : Run). p.1) run)
        (record {
          cubes = cs;
          story = ends_whole l register register' cs s f' e;
          draft_is = ap (λ (k : Running). k.draft) ended.0;
          inputs_are = ended.1 ∙ ap (λ (k : Running). k.draft.arity.inputs) (sym ended.0);
        })
    next_told more rest l register cs s (Err refusal, register') e _ run = absurd (cc (ap (λ (p : Run). p.0) run))

    pub run_told : (nexts : ℕ) (l : Running) (register : List Entry) (cs : List Cube) → Story N S (running l) register [] cs
        → run_of nexts N S l register ≡ (Ok f, register'') → Ran N S l.draft f register''
    unfolding run_of
    run_told zero l register cs s run = absurd (cc (ap (λ (p : Run). p.0) run))
    run_told (suc nexts) l register cs s run =
        next_told (run_of nexts N S) (run_told nexts) l register cs s (nexted l N S register) refl (after_next l N S register) run

-- Answers where the value table has room, and what an answer tells of it.
use Rattle.std.proofs.Common.{◌≡◌, ℕ, ◌<◌, Bool, true, false, ltb, List, length, Ok, Result, sym, refl, ap, ◌∙◌}
use Rattle.std.proofs.lemmas.Bool.{lt-ltb, ltb-true, cond-true, cond-false}
use Rattle.faults.specs.declared.table.TableFault.{TableFault}
use Rattle.circuit.specs.Kinds.{Ops}
use Rattle.circuit.specs.Circuits.{Netlist, highest}
use Rattle.circuit.specs.Answers.{with_room, table_with, after_with}

pub given : {X : Type 0} (c : Netlist) (places : ℕ) (x : X) → highest c < places → Ok x ≡ with_room c places x
given c places x h = sym (cond-true _ _ _ (lt-ltb _ _ h))

pub written : {X : Type 0} (o : Ops X) (c : Netlist) (held vs : List X) → highest c < length vs → table_with o c held vs ≡ after_with o c held vs
written o c held vs h = sym (cond-true _ _ _ (lt-ltb _ _ h))

-- an answer is given only where there is room
pub has_room : {X : Type 0} (c : Netlist) (places : ℕ) (x y : X) → Ok x ≡ with_room c places y → highest c < places
has_room c places x y e = by (ltb (highest c) places) refl
  where
    by : (t : Bool) → ltb (highest c) places ≡ t → highest c < places
    by true t = ltb-true _ _ t
    by false t = let h = e ∙ cond-false _ _ _ t in absurd cc

-- where the answer x, if it is given, is y
pub answers : {X : Type 0} (c : Netlist) (places : ℕ) (x y : X) (r : Result X TableFault) → r ≡ with_room c places x → (r ≡ Ok x → x ≡ y) → r ≡ with_room c places y
answers c places x y r e h = by (ltb (highest c) places) refl
  where
    by : (t : Bool) → ltb (highest c) places ≡ t → r ≡ with_room c places y
    by true t = e ∙ ap (with_room c places) (h (e ∙ cond-true _ _ _ t))
    by false t = e ∙ cond-false _ _ _ t ∙ sym (cond-false _ _ _ t)

-- What the evaluator answers, and the value table after it.
--   value table   a place for each variable: the caller fills 1 to I
-- Assumes nothing.
use Rattle.std.specs.Prelude.{◌≡◌, ℕ, ◌+◌, ◌-◌, ◌*◌, ◌/◌, ◌<◌, Bool, true, cond, List, ◌++◌, length, get_or, take, drop, Ok, Err, Result, nat_lt, slice_index, slice_index_or}
use Rattle.faults.specs.declared.table.TableFault.{TableFault}
use Rattle.faults.specs.declared.table.TableFault.TheVariants.{ValuesShort}
use Rattle.circuit.specs.Kinds.{Ops, Settled, bit_at}
use Rattle.circuit.specs.Circuits.{Netlist, highest, literal, variables, output_with}
use Rattle.circuit.specs.Solutions.{solves}

-- where the value table has a place for each variable the answer, else the refusal
abbrev pub with_room : {X : Type 0} → Netlist → ℕ → X → Result X TableFault
with_room c places x = cond (nat_lt (highest c) places) (Ok x) (Err (ValuesShort (highest c + 1)))

-- the output's value, where the inputs' places of the table have theirs
abbrev pub output_of : {X : Type 0} → Ops X → Netlist → List X → X
output_of o c vs = output_with o c (take c.inputs (drop 1 vs))

abbrev pub evaluated : {X : Type 0} → Ops X → Netlist → List X → Result X TableFault
evaluated o c vs = with_room c (length vs) (output_of o c vs)

-- the value table after the inputs held these values: every variable's value, and what lies beyond as it was
abbrev pub table_with : {X : Type 0} → Ops X → Netlist → List X → List X → List X
table_with o c held vs = variables o c.gates held ++ drop (c.inputs + 1 + length c.gates / 2) vs

-- the same, or the table as it was where it is refused
abbrev pub after_with : {X : Type 0} → Ops X → Netlist → List X → List X → List X
after_with o c held vs = cond (nat_lt (highest c) (length vs)) (table_with o c held vs) vs

-- the value table after the evaluation
abbrev pub table_after : {X : Type 0} → Ops X → Netlist → List X → List X
table_after o c vs = after_with o c (take c.inputs (drop 1 vs)) vs

-- the value table and the output by what they have to do with each other
pub record Consistent {X : Type 0} (o : Ops X) (c : Netlist) (vs : List X) (v : X) : Type 0 where
  pub place0 : get_or vs 0 o.falsity ≡ o.falsity
  pub gate : (k : ℕ) → k < length c.gates / 2
      → slice_index_or vs (c.inputs + 1 + k) o.falsity ≡ o.both (literal o vs (slice_index c.gates (2 * k))) (literal o vs (slice_index c.gates (2 * k + 1)))
  pub out : v ≡ literal o vs c.output

-- what the inputs' places of the value table hold, by the place of the input's bit in a row
abbrev pub input_values : {X : Type 0} → X → ℕ → List X → ℕ → X
input_values falsity inputs vs k = slice_index_or vs (inputs - k) falsity

-- in this lane the inputs' values allow the row's bits
abbrev pub AllowsRow : {X : Type 0} → (X → ℕ → Bool → Bool) → ℕ → (ℕ → X) → ℕ → ℕ → Type 0
AllowsRow allows inputs given lane row = (k : ℕ) → k < inputs → allows (given k) lane (bit_at row k) ≡ true

-- the output allows the circuit's value wherever the inputs allow the row
abbrev pub Sound : {X : Type 0} → ℕ → (X → ℕ → Bool → Bool) → Netlist → (ℕ → X) → X → Type 0
Sound lanes allows c given v = (row lane : ℕ) → lane < lanes → AllowsRow allows c.inputs given lane row → allows v lane (solves c row) ≡ true

-- the output is settled wherever all inputs are
abbrev pub Settles : {X : Type 0} → ℕ → (X → ℕ → Bool → Bool) → ℕ → (ℕ → X) → X → Type 0
Settles lanes allows inputs given v = (lane : ℕ) → lane < lanes → ((k : ℕ) → k < inputs → Settled (allows (given k) lane)) → Settled (allows v lane)

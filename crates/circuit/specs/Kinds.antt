-- What a value of each kind means, lane by lane.
--   lane     one of the rows that a value carries at once
--   allows   may the lane hold this bit?
--   settled  a lane that allows one bit only
--   Ops      a kind's false, AND and inverse
-- Assumes nothing.
use Rattle.std.specs.Prelude.{◌≡◌, ℕ, ◌/◌, ◌%◌, ◌^◌, Bool, true, false, cond, not, ◌&&◌, is_some, Some, None, Option, ◌==◌, bit_and, bit_xor, nat_lt}
use Rattle.circuit.specs.declared.bit.Bit.{Bit}
use Rattle.circuit.specs.declared.ternary.Ternary.{Ternary}
use Rattle.circuit.specs.declared.ternary.Ternary.TheVariants.{Zero, One, Unknown}
use Rattle.circuit.specs.declared.word.Word.{Word}

pub record Ops (X : Type 0) : Type 0 where
  pub falsity : X
  pub both : X → X → X
  pub inverse : X → X

-- bit k of a number, the lowest being bit 0
abbrev pub bit_at : ℕ → ℕ → Bool
bit_at n k = n / 2 ^ k % 2 == 1

-- the one bit that is allowed, where 0 and 1 are allowed or not
abbrev pub only : Bool → Bool → Option Bool
only true true = None
only true false = Some false
only false true = Some true
only false false = None

-- the settled bit of a lane that allows these bits
abbrev pub settled_bit : (Bool → Bool) → Option Bool
settled_bit allows = only (allows false) (allows true)

abbrev pub Settled : (Bool → Bool) → Type 0
Settled allows = is_some (settled_bit allows) ≡ true

-- what looking at a lane gives: nothing where it is not settled, or past the last lane
abbrev pub looked : ℕ → (ℕ → Bool → Bool) → ℕ → Option Bool
looked lanes allows lane = cond (nat_lt lane lanes) (settled_bit (allows lane)) None

-- a lane that holds one bit allows that bit
abbrev pub same : Bool → Bool → Bool
same true b = b
same false b = not b

-- ---- the single bit

abbrev pub bit_allows : Bit → ℕ → Bool → Bool
bit_allows u lane b = same u.on b

abbrev pub bit_ops : Ops Bit
bit_ops = record {
  falsity = record { on = false };
  both = λ u w. record { on = u.on && w.on };
  inverse = λ u. record { on = not u.on };
}

-- ---- the three-valued signal

abbrev pub ternary_allows : Ternary → ℕ → Bool → Bool
ternary_allows Zero lane b = not b
ternary_allows One lane b = b
ternary_allows Unknown lane b = true

abbrev pub ternary_both : Ternary → Ternary → Ternary
ternary_both Zero w = Zero
ternary_both One w = w
ternary_both Unknown Zero = Zero
ternary_both Unknown One = Unknown
ternary_both Unknown Unknown = Unknown

abbrev pub ternary_inverse : Ternary → Ternary
ternary_inverse Zero = One
ternary_inverse One = Zero
ternary_inverse Unknown = Unknown

abbrev pub ternary_ops : Ops Ternary
ternary_ops = record { falsity = Zero; both = ternary_both; inverse = ternary_inverse }

-- ---- the word of 32 lanes

abbrev pub word_allows : Word → ℕ → Bool → Bool
word_allows u lane b = same (bit_at u.bits lane) b

abbrev pub word_ops : Ops Word
word_ops = record {
  falsity = record { bits = 0 };
  both = λ u w. record { bits = bit_and u.bits w.bits };
  inverse = λ u. record { bits = bit_xor u.bits 4294967295 };
}

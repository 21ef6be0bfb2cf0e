-- Writing into lent memory, from the front.
--   writer   the memory, and the place of the next byte
-- Assumes nothing.
use Rattle.std.specs.Prelude.{◌≡◌, ℕ, ◌+◌, ◌≤◌, List, length}
use Rattle.std.specs.Borrow.{MutBor}
use Rattle.pla.specs.declared.writer.Writer.{Writer}
use Rattle.pla.specs.Memory.{stored}

-- it has the memory, and nothing is written
pub record Starts (memory : MutBor (List ℕ)) (writer : Writer) : Type 0 where
  pub same_reference : writer.memory.ghost_name ≡ memory.ghost_name
  pub same : writer.memory.now ≡ memory.now
  pub front : writer.at ≡ 0

-- there is room for the bytes
abbrev pub Fits : Writer → List ℕ → Type 0
Fits writer bytes = writer.at + length bytes ≤ length writer.memory.now

-- the bytes were stored from the place of the next byte on, which is now behind them
pub record Wrote (old : Writer) (bytes : List ℕ) (new : Writer) : Type 0 where
  pub size : length new.memory.now ≡ length old.memory.now
  pub same_reference : new.memory.ghost_name ≡ old.memory.ghost_name
  pub after : new.memory.now ≡ stored old.memory.now old.at bytes
  pub place : new.at ≡ old.at + length bytes

-- A memory of a program's own: how much it is, and what it lends.
--   blank   as it is allocated: zeros, false and 0 throughout
-- Assumes nothing.
use Rattle.std.specs.Prelude.{◌≡◌, replicate, vec_len, vec_items}
use Rattle.circuit.specs.Kinds.{word_ops, ternary_ops}
use Rattle.jobs.specs.Lists.{Room}
use Rattle.jobs.specs.Sizes.{enough}
use Rattle.jobs.specs.declared.workspace.Workspace.{Workspace}
use Rattle.shell.specs.declared.memory.Memory.{Memory}

abbrev pub room_in : Memory → Room
room_in m = record { gate_table = vec_len m.gate_table; bits = vec_len m.bits; words = vec_len m.words; signals = vec_len m.signals }

pub record Blank (m : Memory) : Type 0 where
  pub gate_table : vec_items m.gate_table ≡ replicate enough.gate_table 0
  pub bits : vec_items m.bits ≡ replicate enough.bits 0
  pub words : vec_items m.words ≡ replicate enough.words word_ops.falsity
  pub signals : vec_items m.signals ≡ replicate enough.signals ternary_ops.falsity

-- the workspace is the memory, part by part
pub record Lends (m : Memory) (w : Workspace) : Type 0 where
  pub gate_table : w.gate_table.now ≡ vec_items m.gate_table
  pub bits : w.bits.now ≡ vec_items m.bits
  pub words : w.words.now ≡ vec_items m.words
  pub signals : w.signals.now ≡ vec_items m.signals

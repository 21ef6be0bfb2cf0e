-- A number of inputs within the limits is an arity, whichever proof of the limits the struct has. Assumes nothing.
use Rattle.std.proofs.Common.{◌≡◌, ℕ, ◌≤◌, Some, refl}
use Rattle.std.proofs.Math.Logic.{Dec-prop}
use Rattle.std.proofs.Math.Bridge.{le_prop}
use Rattle.std.proofs.Math.Decide.{dec_le}
use Rattle.listing.specs.Limits.{max_inputs}
use Rattle.listing.specs.Calls.{arity_of}

pub arity_given : (n : ℕ) (limits : (1 ≤ n) × (n ≤ max_inputs)) → arity_of n ≡ Some (record { inputs = n; limits = limits })
arity_given n limits = rw (Dec-prop le_prop (dec_le 1 n) (yes limits.0), arity_of) (rw (Dec-prop le_prop (dec_le n max_inputs) (yes limits.1)) refl)

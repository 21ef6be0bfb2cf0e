use Rattle.std.proofs.Common.{rules}
use Rattle.listing.proofs.room.has_room.Goals as goal

pub returns-then-used-register : goal.returns-then-used-register
returns-then-used-register c = search rules

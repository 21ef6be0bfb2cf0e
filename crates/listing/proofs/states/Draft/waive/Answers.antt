use Rattle.std.proofs.Common.{rules}
use Rattle.listing.proofs.states.Draft.waive.Goals as goal

pub returns-then-not-has_room : goal.returns-then-not-has_room
returns-then-not-has_room c = search rules

pub returns : goal.returns
returns c = search rules

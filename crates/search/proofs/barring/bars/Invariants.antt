use Rattle.search.proofs.Touching.{SoFar}
use Rattle.search.proofs.barring.bars.Given as goal

abbrev pub invariant-loop-entry : goal.invariant-loop-entry
invariant-loop-entry l = SoFar l.branch.inputs l.branch.care l.branch.value l.barred l.entry-index l.barring

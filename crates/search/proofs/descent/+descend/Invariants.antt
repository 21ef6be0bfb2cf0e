use Rattle.search.specs.Branches.{open_count}
use Rattle.search.proofs.descent.+descend.Given as goal

abbrev pub decreases-descend : goal.decreases-descend
decreases-descend l = open_count l.branch.inputs l.branch.care

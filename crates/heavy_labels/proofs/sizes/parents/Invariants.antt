use Rattle.heavy_labels.specs.Sizes.{AreParentsTo}
use Rattle.heavy_labels.proofs.sizes.parents.Given as goal

abbrev pub invariant-loop-i : goal.invariant-loop-i
invariant-loop-i g l = AreParentsTo l.members l.i l.above.items

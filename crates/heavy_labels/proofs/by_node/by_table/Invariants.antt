use Rattle.heavy_labels.specs.ByNode.{AreByNodeTo}
use Rattle.heavy_labels.proofs.by_node.by_table.Given as goal

abbrev pub invariant-loop-x : goal.invariant-loop-x
invariant-loop-x g l = AreByNodeTo l.members l.x l.all.items

use Rattle.heavy_labels.specs.ByNode.{AreSpots}
use Rattle.heavy_labels.proofs.by_node.spots.Given as goal

abbrev pub invariant-loop-i : goal.invariant-loop-i
invariant-loop-i g l = AreSpots l.members l.i l.all.items

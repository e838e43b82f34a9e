use Rattle.std.proofs.Common.{take}
use Rattle.heavy_labels.specs.HeavyKids.{AreHeavy}
use Rattle.heavy_labels.proofs.heavy_kids.heavy_children.Given as goal

abbrev pub invariant-loop-j : goal.invariant-loop-j
invariant-loop-j g l = AreHeavy l.members (take l.j l.by_node) l.heavy.items

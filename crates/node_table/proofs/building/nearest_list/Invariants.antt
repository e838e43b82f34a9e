use Rattle.std.proofs.Common.{◌≡◌, take}
use Rattle.node_table.proofs.building.nearest_list.Given as goal

abbrev pub invariant-loop-v : goal.invariant-loop-v
invariant-loop-v l = l.all.items ≡ take l.v l.nearest.nearest

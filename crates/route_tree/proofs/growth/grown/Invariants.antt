use Rattle.std.proofs.Common.{◌≤◌, ◌<◌, length}
use Rattle.route_tree.specs.Slots.{Waits}
use Rattle.route_tree.proofs.growth.grown.Given as goal

abbrev pub invariant-loop-left : goal.invariant-loop-left
invariant-loop-left g l = (0 < l.left) × ((l.left ≤ length l.members) × Waits l.members l.left l.slots.items)

abbrev pub decreases-loop-left : goal.decreases-loop-left
decreases-loop-left g l = l.left

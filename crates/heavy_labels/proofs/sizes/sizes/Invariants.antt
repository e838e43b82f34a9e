use Rattle.std.proofs.Common.{◌≡◌, ◌≤◌, ◌<◌, length}
use Rattle.heavy_labels.specs.Sizes.{AreSizes}
use Rattle.heavy_labels.proofs.sizes.sizes.Given as goal

abbrev pub invariant-loop-left : goal.invariant-loop-left
invariant-loop-left g l = (0 < l.left) × ((l.left ≤ length l.members) × ((length l.sizes.items ≡ length l.members) × AreSizes l.members l.left l.sizes.items))

abbrev pub decreases-loop-left : goal.decreases-loop-left
decreases-loop-left g l = l.left

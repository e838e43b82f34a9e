use Rattle.std.proofs.Common.{length}
use Rattle.single_route.proofs.ListedTrees.{IsForking}
use Rattle.single_route.proofs.paths.fork_of.Given as goal

abbrev pub invariant-loop-above : goal.invariant-loop-above
invariant-loop-above l = IsForking l.up l.down l.fork.up.now l.fork.down.now l.fork.at

abbrev pub decreases-loop-above : goal.decreases-loop-above
decreases-loop-above l = length l.fork.up.now

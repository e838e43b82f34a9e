use Rattle.std.proofs.Common.{length}
use Rattle.distances.specs.Workspace.{reached_of}
use Rattle.single_route.proofs.ListedTrees.{IsClimbing}
use Rattle.single_route.proofs.paths.line_up.Given as goal

abbrev pub invariant-loop-member : goal.invariant-loop-member
invariant-loop-member l = IsClimbing (reached_of l.members) (reached_of l.left) l.node l.line.items l.above

abbrev pub decreases-loop-member : goal.decreases-loop-member
decreases-loop-member l = length l.left

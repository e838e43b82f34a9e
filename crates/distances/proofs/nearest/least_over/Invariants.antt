use Rattle.distances.specs.Nearest.{near_at}
use Rattle.distances.proofs.NearestLandmarks.{IsLeastFirst}
use Rattle.distances.proofs.nearest.least_over.Given as goal

abbrev pub invariant-loop-node : goal.invariant-loop-node
invariant-loop-node l = IsLeastFirst (near_at l.of) l.node-items l.settled.distance l.node-index l.least

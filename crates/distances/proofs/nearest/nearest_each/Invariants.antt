use Rattle.std.proofs.Common.{◌≡◌, ◌≤◌, length}
use Rattle.std.specs.List.{count_by}
use Rattle.std.specs.Option.{is_some}
use Rattle.distances.specs.Nearest.{near_at}
use Rattle.distances.proofs.NearestLandmarks.{AreFound}
use Rattle.distances.proofs.nearest.nearest_each.Given as goal

abbrev pub invariant-loop-settled : goal.invariant-loop-settled
invariant-loop-settled l = record {
  nodes : length l.of.items ≡ l.graph.nodes;
  found : AreFound l.graph.edges l.flags (near_at l.of.items) l.order l.settled-index;
  counted : count_by (λ near. is_some near) l.of.items ≤ l.settled-index;
}

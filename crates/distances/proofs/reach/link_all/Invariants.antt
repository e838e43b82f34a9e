use Rattle.std.proofs.Common.{◌≡◌, map, take}
use Rattle.std.specs.List.{All}
use Rattle.distances.specs.Arrivals.{arrival_at, parent_by}
use Rattle.distances.specs.Reach.{settled_of}
use Rattle.distances.specs.Workspace.{reached_of, AreLinked}
use Rattle.distances.proofs.reach.link_all.Given as goal

abbrev pub invariant-loop-settled : goal.invariant-loop-settled
invariant-loop-settled l = record {
  order : map settled_of (reached_of l.members.items) ≡ take l.settled-index l.order;
  parents : All (λ m. m.reached.parent ≡ parent_by (arrival_at l.arrivals m.reached.node)) l.members.items;
  ports : AreLinked l.graph l.members.items;
}

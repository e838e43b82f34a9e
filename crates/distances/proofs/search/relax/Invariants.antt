use Rattle.std.proofs.Common.{◌≡◌, ◌+◌, ◌≤◌, ℕ, Bool, length}
use Rattle.std.specs.BinaryHeap.{KeepsHeap, heap_items}
use Rattle.distances.specs.Search.{number_at}
use Rattle.distances.specs.Arrivals.{arrival_at}
use Rattle.distances.proofs.Turns.{IsRelaxing}
use Rattle.distances.proofs.Arrived.{AreArriving}
use Rattle.distances.specs.Waiting.{nearest_first, IsQueue}
use Rattle.distances.proofs.search.relax.Given as goal

abbrev pub invariant-loop-port : goal.invariant-loop-port
invariant-loop-port l = record {
  relaxing : IsRelaxing l.graph.edges (number_at l.limits) l.from.node l.from.distance (number_at l.fn.tentative) (number_at l.tentative) l.node-items l.port;
  order : KeepsHeap nearest_first (heap_items l.fn.waiting) (heap_items l.waiting);
  queue : (done : ℕ → Bool) → IsQueue l.graph.nodes (number_at l.fn.tentative) done (heap_items l.fn.waiting) → IsQueue l.graph.nodes (number_at l.tentative) done (heap_items l.waiting);
  counted : length (heap_items l.waiting) ≤ length (heap_items l.fn.waiting) + l.port;
  arriving : AreArriving l.graph (number_at l.limits) l.from.node l.from.distance (number_at l.fn.tentative) (number_at l.tentative) (arrival_at l.fn.arrivals) (arrival_at l.arrivals) l.port;
  places : length l.arrivals ≡ l.graph.nodes;
  tentatives : length l.tentative ≡ l.graph.nodes;
}

use Rattle.std.proofs.Common.{◌≡◌, ◌+◌, ◌-◌, ◌<◌, ◌≤◌, length, vec_len, vec_capacity}
use Rattle.std.specs.BinaryHeap.{IsHeap, heap_items}
use Rattle.std.specs.List.{All}
use Rattle.distances.specs.Search.{number_at, flag_at, IsAtZero, degrees}
use Rattle.graph_edits.specs.Edges.{most_nodes, all_degrees}
use Rattle.distances.proofs.OpenDegrees.{open_degrees}
use Rattle.distances.specs.Arrivals.{arrival_at, AreArrivals}
use Rattle.distances.specs.Waiting.{nearest_first, HasNodes, IsQueue}
use Rattle.distances.proofs.Progress.{Progress}
use Rattle.distances.proofs.Turns.{count_open}
use Rattle.distances.proofs.Queues.{most_pops}
use Rattle.distances.proofs.search.settle_all.Given as goal

abbrev pub invariant-loop-next : goal.invariant-loop-next
invariant-loop-next l = record {
  progress : Progress l.graph.edges (IsAtZero l.fn.search.tentative.items) (number_at l.limits) (number_at l.search.tentative.items) (flag_at l.search.settled.items) l.search.order.items;
  places : HasNodes l.fn.graph.nodes l.search;
  few : l.fn.graph.nodes ≤ most_nodes;
  counted : length l.search.order.items + count_open l.search.settled.items ≡ l.fn.graph.nodes;
  listed : All (λ s. s.node < l.graph.nodes) l.search.order.items;
  room : vec_len l.search.order < vec_capacity l.search.order;
  arrived : AreArrivals l.graph (number_at l.search.tentative.items) (flag_at l.search.settled.items) (arrival_at l.search.arrivals.items);
  queue : IsQueue l.graph.nodes (number_at l.search.tentative.items) (flag_at l.search.settled.items) (heap_items l.search.waiting);
  order : IsHeap nearest_first (heap_items l.search.waiting);
  pops : l.pops + length (heap_items l.search.waiting) ≤ length (heap_items l.fn.search.waiting) + degrees l.graph l.search.order.items;
  degrees_left : degrees l.graph l.search.order.items + open_degrees l.graph l.search.settled.items ≡ all_degrees l.graph;
  no_fewer : length l.search.order.items ≤ l.pops;
}

abbrev pub decreases-loop-next : goal.decreases-loop-next
decreases-loop-next l = most_pops - l.pops

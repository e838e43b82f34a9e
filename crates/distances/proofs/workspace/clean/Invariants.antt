use Rattle.std.proofs.Common.{◌≡◌, [], length}
use Rattle.std.specs.BinaryHeap.{heap_items}
use Rattle.distances.specs.Search.{number_at, flag_at}
use Rattle.distances.specs.Waiting.{HasNodes, IsTracked}
use Rattle.distances.proofs.workspace.clean.Given as goal

abbrev pub invariant-loop-listed : goal.invariant-loop-listed
invariant-loop-listed l = record {
  places : HasNodes (length l.fn.search.tentative.items) l.search;
  tracked : IsTracked (length l.fn.search.tentative.items) (number_at l.search.tentative.items) (flag_at l.search.settled.items) l.search.order.items (heap_items l.search.waiting);
}

abbrev pub decreases-loop-listed : goal.decreases-loop-listed
decreases-loop-listed l = goal.left-loop-listed l

abbrev pub invariant-loop-open : goal.invariant-loop-open
invariant-loop-open l = record {
  places : HasNodes (length l.fn.search.tentative.items) l.search;
  none : l.search.order.items ≡ [];
  tracked : IsTracked (length l.fn.search.tentative.items) (number_at l.search.tentative.items) (flag_at l.search.settled.items) l.search.order.items (heap_items l.search.waiting);
}

abbrev pub decreases-loop-open : goal.decreases-loop-open
decreases-loop-open l = length (heap_items l.search.waiting)

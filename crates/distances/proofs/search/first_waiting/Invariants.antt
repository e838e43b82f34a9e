use Rattle.std.specs.BinaryHeap.{IsHeap, heap_items}
use Rattle.distances.specs.Waiting.{nearest_first}
use Rattle.distances.proofs.Queues.{IsStarted}
use Rattle.distances.proofs.search.first_waiting.Given as goal

abbrev pub invariant-loop-node : goal.invariant-loop-node
invariant-loop-node l = record {
  order : IsHeap nearest_first (heap_items l.waiting);
  started : IsStarted l.sources l.node (heap_items l.waiting);
}

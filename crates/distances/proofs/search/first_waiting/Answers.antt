use Rattle.std.proofs.Common.{arith, refl}
use Rattle.std.specs.BinaryHeap.{heap_items}
use Rattle.distances.proofs.Queues.{started_more, started_all}
use Rattle.distances.proofs.search.first_waiting.Goals as goal

pub loop-node-preserved : goal.loop-node-preserved
loop-node-preserved c = record {
  order = c.in_ok-add_source.ensures.order c.loop-node.invariant.order;
  started = started_more c.args.sources.now c.loop-node.node (record { distance = 0; node = c.loop-node.node }) (heap_items c.loop-node.waiting) (heap_items c.add_source.new.waiting) (omega (arith, c.loop-node-test.true, c.loop-node.auto)) refl refl c.loop-node.invariant.started c.in_ok-add_source.ensures.joined;
}

pub returns-clause-queue : goal.returns-clause-queue
returns-clause-queue c = λ done. started_all c.args.sources.now c.loop-node.node (heap_items c.loop-node.waiting) done (omega (arith, c.loop-node-test.false, c.loop-node.auto)) c.loop-node.invariant.started

use Rattle.sample_networks.specs.Drawn.{AreNodes}
use Rattle.sample_networks.proofs.drawn.drawn_nodes.Given as goal

-- those drawn so far are of the nodes so far
abbrev pub invariant-loop-node : goal.invariant-loop-node
invariant-loop-node l = AreNodes l.node l.drawn.items

use Rattle.sample_networks.specs.Drawn.{AreEdges}
use Rattle.sample_networks.proofs.drawn.drawn_edges.Given as goal

-- the edges so far are those between the nodes so far
abbrev pub invariant-loop-a : goal.invariant-loop-a
invariant-loop-a l = AreEdges l.a l.heaviest l.edges.items

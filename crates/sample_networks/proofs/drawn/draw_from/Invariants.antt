use Rattle.std.proofs.Common.{All, ◌+◌}
use Rattle.sample_networks.specs.Drawn.{AreEdges, IsBefore}
use Rattle.sample_networks.proofs.drawn.draw_from.Given as goal

-- the edges so far are those of the pairs so far
abbrev pub invariant-loop-b : goal.invariant-loop-b
invariant-loop-b l = record {
  edges : AreEdges (l.a + 1) l.heaviest l.edges.items;
  before : All (λ row. IsBefore row l.a l.b) l.edges.items;
}

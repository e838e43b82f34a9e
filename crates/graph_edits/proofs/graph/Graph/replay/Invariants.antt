use Rattle.std.proofs.Common.{◌≡◌, take, drop}
use Rattle.graph_edits.specs.Changes.{edges_after, with_ops}
use Rattle.graph_edits.proofs.graph.Graph.replay.Given as goal

abbrev pub invariant-loop-index : goal.invariant-loop-index
invariant-loop-index l = record {
  made : l.self ≡ with_ops l.fn.self (take l.index l.change);
  rest : edges_after l.fn.self.nodes l.fn.self.edges 0 l.change ≡ edges_after l.fn.self.nodes l.self.edges l.index (drop l.index l.change);
}

use Rattle.std.proofs.Common.{◌≡◌, ◌≤◌, take, drop}
use Rattle.std.specs.FinMap.{len}
use Rattle.graph_edits.specs.Changes.{edges_by, edges_after_within}
use Rattle.graph_edits.specs.Edges.{most_edges}
use Rattle.graph_edits.proofs.overlay.Overlay.first_refused.Given as goal

abbrev pub invariant-loop-i : goal.invariant-loop-i
invariant-loop-i l = record {
  rest : edges_after_within l.limit l.self.nodes l.self.edges 0 l.ops ≡ edges_after_within l.limit l.self.nodes (edges_by l.self.edges (take l.i l.ops)) l.i (drop l.i l.ops);
  counted : l.edges ≡ len (edges_by l.self.edges (take l.i l.ops));
  few : l.edges ≤ most_edges;
}

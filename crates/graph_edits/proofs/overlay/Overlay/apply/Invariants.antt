use Rattle.std.proofs.Common.{◌≡◌, ◌+◌, ◌-◌, ◌≤◌, drop, vec_len, vec_capacity}
use Rattle.graph_edits.specs.Edges.{most_ops}
use Rattle.graph_edits.specs.Changes.{edges_after}
use Rattle.graph_edits.specs.Overlays.{IsOverlay, overlaid}
use Rattle.graph_edits.proofs.overlay.Overlay.apply.Given as goal

abbrev pub invariant-loop-op : goal.invariant-loop-op
invariant-loop-op l = record {
  kept : IsOverlay l.self-inside.graph.now l.self-inside.changed.items l.self-inside.edges;
  nodes : l.self-inside.graph.now.nodes ≡ l.fn.self.nodes;
  rest : edges_after l.fn.self.nodes l.fn.self.edges 0 l.ops ≡ edges_after l.fn.self.nodes (overlaid l.self-inside.graph.now.edges l.self-inside.changed.items) l.op-index (drop l.op-index l.ops);
  room : vec_len l.self-inside.changed + (most_ops - l.op-index) ≤ vec_capacity l.self-inside.changed;
}

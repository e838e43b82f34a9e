use Rattle.std.proofs.Common.{◌≡◌, take}
use Rattle.graph_edits.specs.Edges.{weight_between}
use Rattle.graph_edits.specs.Changes.{edges_by}
use Rattle.graph_edits.proofs.overlay.Overlay.weight_after.Given as goal

abbrev pub invariant-loop-op : goal.invariant-loop-op
invariant-loop-op l = l.weight ≡ weight_between (edges_by l.self.edges (take l.op-index l.ops)) l.a l.b

use Rattle.std.proofs.Common.{◌≡◌, ◌<◌, length, vec_len}
use Rattle.std.specs.List.{All}
use Rattle.graph_edits.specs.Rows.{lists, network_of, AreRows}
use Rattle.graph_edits.specs.Placed.{placed}
use Rattle.graph_edits.proofs.graph.Graph.install.Given as goal

abbrev pub invariant-loop-node : goal.invariant-loop-node
invariant-loop-node l = record {
  within : All (λ e. e.0 < length l.self-inside.rows.items) l.rows.items;
  kept : AreRows (placed (lists l.self-inside.rows.items) l.rows.items) l.edges;
  rest : network_of (placed (lists l.self-inside.rows.items) l.rows.items) ≡ l.fn.prepared.after;
}

abbrev pub decreases-loop-node : goal.decreases-loop-node
decreases-loop-node l = vec_len l.rows

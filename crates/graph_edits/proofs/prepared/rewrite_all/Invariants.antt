use Rattle.std.proofs.Common.{◌≡◌, length, drop}
use Rattle.graph_edits.specs.Changes.{edges_after}
use Rattle.graph_edits.specs.Rows.{lists, edges_from, AreRows}
use Rattle.graph_edits.specs.Placed.{placed, AreSlots}
use Rattle.graph_edits.proofs.prepared.rewrite_all.Given as goal

abbrev pub invariant-loop-op : goal.invariant-loop-op
invariant-loop-op l = record {
  slots : AreSlots (length l.base) l.rows.items;
  rows : AreRows (placed (lists l.base) l.rows.items) l.edges;
  rest : edges_after (length l.base) (edges_from 0 (placed (lists l.base) l.fn.rows.items)) 0 l.ops ≡ edges_after (length l.base) (edges_from 0 (placed (lists l.base) l.rows.items)) l.op-index (drop l.op-index l.ops);
}

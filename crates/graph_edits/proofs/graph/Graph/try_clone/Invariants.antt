use Rattle.std.proofs.Common.{◌≡◌, take}
use Rattle.graph_edits.specs.Rows.{lists}
use Rattle.graph_edits.proofs.graph.Graph.try_clone.Given as goal

abbrev pub invariant-loop-row : goal.invariant-loop-row
invariant-loop-row l = lists l.rows.items ≡ lists (take l.row-index l.self-inside.rows.items)

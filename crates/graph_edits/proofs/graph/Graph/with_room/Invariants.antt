use Rattle.std.proofs.Common.{◌≡◌, ℕ, [], length}
use Rattle.graph_edits.specs.Rows.{lists, row_of}
use Rattle.graph_edits.proofs.graph.Graph.with_room.Given as goal

abbrev pub invariant-loop-degree : goal.invariant-loop-degree
invariant-loop-degree l = record { none : (x : ℕ) → row_of (lists l.rows.items) x ≡ []; counted : length l.rows.items ≡ l.degree-index }

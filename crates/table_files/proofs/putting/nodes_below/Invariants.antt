use Rattle.std.proofs.Common.{◌≡◌}
use Rattle.graph_edits.specs.Edges.{below}
use Rattle.table_files.proofs.putting.nodes_below.Given as goal

abbrev pub invariant-loop-node : goal.invariant-loop-node
invariant-loop-node l = l.nodes.items ≡ below l.node

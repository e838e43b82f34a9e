use Rattle.std.proofs.Common.{◌≡◌, ◌++◌}
use Rattle.checkpoint.proofs.EdgeRows.{rows_text}
use Rattle.checkpoint.proofs.roll.put_edges.Given as goal

abbrev pub invariant-loop-node : goal.invariant-loop-node
invariant-loop-node l = l.text.items ≡ l.initial.text.items ++ rows_text l.graph l.node

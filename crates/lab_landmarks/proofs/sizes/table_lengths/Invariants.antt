use Rattle.std.proofs.Common.{◌≡◌}
use Rattle.lab_landmarks.specs.Sizes.{each_node, kept, table_bytes}
use Rattle.lab_landmarks.proofs.sizes.table_lengths.Given as goal

abbrev pub invariant-loop-node : goal.invariant-loop-node
invariant-loop-node l = l.lengths.items ≡ each_node (λ x. kept (table_bytes l.scheme x)) l.node

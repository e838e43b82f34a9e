use Rattle.std.proofs.Common.{◌≡◌, length}
use Rattle.schemes.specs.Tables.{entries_at}
use Rattle.lab_landmarks.specs.Sizes.{each_node}
use Rattle.lab_landmarks.proofs.sizes.entry_counts.Given as goal

abbrev pub invariant-loop-node : goal.invariant-loop-node
invariant-loop-node l = l.counts.items ≡ each_node (λ x. length (entries_at l.scheme x)) l.node

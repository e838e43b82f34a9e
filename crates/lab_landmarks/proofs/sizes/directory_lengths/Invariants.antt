use Rattle.std.proofs.Common.{◌≡◌, length}
use Rattle.schemes.specs.Tables.{directory_at}
use Rattle.lab_landmarks.specs.Sizes.{each_node}
use Rattle.lab_landmarks.proofs.sizes.directory_lengths.Given as goal

abbrev pub invariant-loop-node : goal.invariant-loop-node
invariant-loop-node l = l.lengths.items ≡ each_node (λ x. length (directory_at l.scheme x)) l.node

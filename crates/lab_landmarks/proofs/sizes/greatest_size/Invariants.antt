use Rattle.std.proofs.Common.{◌≡◌, ◌⊎◌, ℕ, ◌<◌, ◌≤◌}
use Rattle.lab_landmarks.specs.Sizes.{table_size}
use Rattle.lab_landmarks.proofs.sizes.greatest_size.Given as goal

abbrev pub invariant-loop-node : goal.invariant-loop-node
invariant-loop-node l = record {
  within : (x : ℕ) → x < l.node → table_size l.scheme x ≤ l.greatest;
  one : (l.greatest ≡ 0) ⊎ ((x : ℕ) × ((x < l.node) × (table_size l.scheme x ≡ l.greatest)));
}

use Rattle.std.proofs.Common.{ℕ, ◌*◌, ◌≤◌, ◌-◌}
use Rattle.landmarks.proofs.landmarks.bound.Given as goal

abbrev pub invariant-loop-root : goal.invariant-loop-root
invariant-loop-root l = record { some : 1 ≤ l.root; few : l.root ≤ l.nodes; least : (p : ℕ) → l.nodes ≤ p * p → l.root ≤ p }

abbrev pub decreases-loop-root : goal.decreases-loop-root
decreases-loop-root l = l.nodes - l.root

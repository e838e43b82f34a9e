use Rattle.certificate.proofs.Words.{◌<◌, ℕ, rule_of, HoldsAt}
use Rattle.certificate.proofs.checks.holds.Given as goal

abbrev pub invariant-loop-x : goal.invariant-loop-x
invariant-loop-x l = (k : ℕ) → k < l.x → HoldsAt l.graph l.scheme (rule_of l.fault) k

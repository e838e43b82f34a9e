use Rattle.certificate.proofs.Words.{ℕ, ◌<◌, IsNodeFramed}
use Rattle.certificate.proofs.shape.is_framed.Given as goal

abbrev pub invariant-loop-x : goal.invariant-loop-x
invariant-loop-x l = (k : ℕ) → k < l.x → IsNodeFramed l.graph l.scheme k

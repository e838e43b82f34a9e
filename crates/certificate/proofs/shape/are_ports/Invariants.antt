use Rattle.certificate.proofs.Words.{◌≡◌, ℕ, ◌<◌, get_or}
use Rattle.certificate.proofs.shape.are_ports.Given as goal

abbrev pub invariant-loop-i : goal.invariant-loop-i
invariant-loop-i l = (k : ℕ) → k < l.i → get_or l.ports k 0 ≡ (get_or l.row k (0, 0)).0

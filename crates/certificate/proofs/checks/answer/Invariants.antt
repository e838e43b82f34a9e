use Rattle.certificate.proofs.Words.{HoldsTo}
use Rattle.certificate.proofs.checks.answer.Given as goal

abbrev pub invariant-loop-i : goal.invariant-loop-i
invariant-loop-i l = HoldsTo l.graph l.scheme l.i

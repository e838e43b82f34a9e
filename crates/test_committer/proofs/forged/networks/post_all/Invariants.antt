use Rattle.test_committer.specs.InARow.{IsInARow}
use Rattle.test_committer.proofs.forged.networks.post_all.Given as goal

abbrev pub invariant-loop-number : goal.invariant-loop-number
invariant-loop-number g l = IsInARow l.writer l.number

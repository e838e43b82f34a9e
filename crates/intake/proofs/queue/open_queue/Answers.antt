use Rattle.intake.proofs.InTurns.{begins, counts}
use Rattle.intake.proofs.queue.open_queue.Goals as goal

pub ruled-requires-clause-rule : goal.ruled-requires-clause-rule
ruled-requires-clause-rule c = begins

pub of-misses-requires-clause-rule : goal.of-misses-requires-clause-rule
of-misses-requires-clause-rule c = counts

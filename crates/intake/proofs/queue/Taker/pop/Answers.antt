use Rattle.intake.proofs.InTurns.{counts, takes, knows}
use Rattle.intake.proofs.queue.Taker.pop.Goals as goal

pub pop-requires-clause-counts : goal.pop-requires-clause-counts
pop-requires-clause-counts g c = counts

pub pop-requires-clause-pops : goal.pop-requires-clause-pops
pop-requires-clause-pops g c = takes _ _ c.self.invariant.1

pub pop-requires-clause-learns : goal.pop-requires-clause-learns
pop-requires-clause-learns g c = knows _ _ c.self.invariant.1

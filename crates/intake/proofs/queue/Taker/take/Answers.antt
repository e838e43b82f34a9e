use Rattle.intake.proofs.Takings.{has_taken}
use Rattle.intake.proofs.queue.Taker.take.Goals as goal

pub returns-clause-taken : goal.returns-clause-taken
returns-clause-taken g c = has_taken c.args.self.now c.pop.new.self c.pop.result c.pop.ensures.first c.pop.ensures.made c.pop.ensures.ended c.pop.ensures.empty c.pop.ensures.all

use Rattle.crossbeam_queue.specs.Passes.{view}
use Rattle.intake.proofs.misses.Misses.push.Goals as goal

pub another-counted-requires-clause-rule : goal.another-counted-requires-clause-rule
another-counted-requires-clause-rule g c = (c.requires.counts c.self.inside.pass.id (view c.self.inside.pass)).1

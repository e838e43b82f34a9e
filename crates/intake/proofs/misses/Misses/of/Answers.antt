use Rattle.crossbeam_queue.specs.Passes.{view}
use Rattle.intake.proofs.misses.Misses.of.Goals as goal

pub another-requires-clause-rule : goal.another-requires-clause-rule
another-requires-clause-rule g c = (c.requires.rule c.args.pass.now.id (view c.args.pass.now)).0

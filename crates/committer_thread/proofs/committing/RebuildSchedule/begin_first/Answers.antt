use Rattle.std.proofs.Common.{refl}
use Rattle.committer_thread.specs.Beside.{DoesGoBeside}
use Rattle.committer_thread.proofs.OnWay.{goes_first}
use Rattle.committer_thread.proofs.committing.RebuildSchedule.begin_first.Goals as goal

pub begin_due-requires-clause-goes : goal.begin_due-requires-clause-goes
begin_due-requires-clause-goes g c κs within =
    let goes : DoesGoBeside c.args.committer.now _ = (c.args.committer.now, goes_first c.args.committer.now _ c.requires.fresh c.requires.bare refl refl) in
    goes

pub returns-in-Ok-clause-goes : goal.returns-in-Ok-clause-goes
returns-in-Ok-clause-goes g c = c.in-Ok.ensures.goes c.args.committer.now (goes_first c.args.committer.now _ c.requires.fresh c.requires.bare refl refl)

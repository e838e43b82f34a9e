use Rattle.committer_thread.proofs.Settling.{queue_taken}
use Rattle.committer_thread.proofs.Pace.{shown_round}
use Rattle.committer_thread.proofs.committing.told_round.Goals as goal

pub returns-in-Err-clause-queue : goal.returns-in-Err-clause-queue
returns-in-Err-clause-queue g c = queue_taken c.args.committer.now c.round.new.self c.round.ensures.takes.queue c.round.ensures.takes.taken

pub stand_of-requires-clause-shown : goal.stand_of-requires-clause-shown
stand_of-requires-clause-shown g c = shown_round c.args.newest c.in-Ok.round.accepted c.args.committer.now c.round.new.self c.requires.shown c.in-Ok.ensures.ok

pub returns-then-round-gt0-clause-shown : goal.returns-then-round-gt0-clause-shown
returns-then-round-gt0-clause-shown g c = shown_round c.args.newest c.in-Ok.round.accepted c.args.committer.now c.round.new.self c.requires.shown c.in-Ok.ensures.ok

pub returns-then-round-gt0-clause-queue : goal.returns-then-round-gt0-clause-queue
returns-then-round-gt0-clause-queue g c = queue_taken c.args.committer.now c.round.new.self c.round.ensures.takes.queue c.round.ensures.takes.taken

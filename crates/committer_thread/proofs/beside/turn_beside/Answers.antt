use Rattle.request_lists.specs.declared.builds.Builds.TheVariants.{Beside}
use Rattle.committer_thread.specs.Beside.{DoesGoBeside}
use Rattle.committer_thread.proofs.OnWay.{goes_round}
use Rattle.committer_thread.proofs.Settling.{queue_same, queue_twice, still_turned}
use Rattle.committer_thread.proofs.beside.turn_beside.Goals as goal

pub returns-in_err-round-clause-listed : goal.returns-in_err-round-clause-listed
returns-in_err-round-clause-listed g c first goes s is = c.told_round.ensures.listed Beside s (c.post_built.ensures.listed first goes s is)

pub returns-in_err-round-clause-turned : goal.returns-in_err-round-clause-turned
returns-in_err-round-clause-turned g c = still_turned c.args.committer.now c.post_built.new.committer c.told_round.new.committer c.post_built.ensures.only.stays c.told_round.ensures.turned

pub returns-in_err-round-clause-queue : goal.returns-in_err-round-clause-queue
returns-in_err-round-clause-queue g c =
    queue_twice c.args.committer.now c.post_built.new.committer c.told_round.new.committer (queue_same c.args.committer.now c.post_built.new.committer c.post_built.ensures.only.stays.taker) c.told_round.ensures.queue

pub begin_due-requires-clause-goes : goal.begin_due-requires-clause-goes
begin_due-requires-clause-goes g c κs within =
    let goes : DoesGoBeside c.told_round.new.committer c.post_built.new.self = (
      c.requires.goes.0,
      goes_round c.requires.goes.0 c.post_built.new.committer c.told_round.new.committer c.post_built.new.self (c.in_ok-post_built.ensures.goes c.requires.goes.0 c.requires.goes.1) c.told_round.ensures.turned c.in_ok-round.ensures.settled
          c.told_round.ensures.listed c.in_ok-round.ensures.shown,
    ) in
    goes

pub returns-in_err-begin_due-clause-listed : goal.returns-in_err-begin_due-clause-listed
returns-in_err-begin_due-clause-listed g c first goes s is = c.told_round.ensures.listed Beside s (c.post_built.ensures.listed first goes s is)

pub returns-in_err-begin_due-clause-turned : goal.returns-in_err-begin_due-clause-turned
returns-in_err-begin_due-clause-turned g c = still_turned c.args.committer.now c.post_built.new.committer c.told_round.new.committer c.post_built.ensures.only.stays c.told_round.ensures.turned

pub returns-in_err-begin_due-clause-queue : goal.returns-in_err-begin_due-clause-queue
returns-in_err-begin_due-clause-queue g c =
    queue_twice c.args.committer.now c.post_built.new.committer c.told_round.new.committer (queue_same c.args.committer.now c.post_built.new.committer c.post_built.ensures.only.stays.taker) c.told_round.ensures.queue

pub returns-clause-goes : goal.returns-clause-goes
returns-clause-goes g c first goes =
    c.in_ok-begin_due.ensures.goes first
    (goes_round first c.post_built.new.committer c.told_round.new.committer c.post_built.new.self (c.in_ok-post_built.ensures.goes first goes) c.told_round.ensures.turned c.in_ok-round.ensures.settled
    c.told_round.ensures.listed c.in_ok-round.ensures.shown)

pub returns-clause-listed : goal.returns-clause-listed
returns-clause-listed g c first goes s is = c.told_round.ensures.listed Beside s (c.post_built.ensures.listed first goes s is)

pub returns-clause-turned : goal.returns-clause-turned
returns-clause-turned g c = still_turned c.args.committer.now c.post_built.new.committer c.told_round.new.committer c.post_built.ensures.only.stays c.told_round.ensures.turned

pub returns-clause-queue : goal.returns-clause-queue
returns-clause-queue g c =
    queue_twice c.args.committer.now c.post_built.new.committer c.told_round.new.committer (queue_same c.args.committer.now c.post_built.new.committer c.post_built.ensures.only.stays.taker) c.told_round.ensures.queue

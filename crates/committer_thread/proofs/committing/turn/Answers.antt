use Rattle.committer_thread.proofs.Settling.{turned_still, listed_twice, queue_same, queue_twice}
use Rattle.committer_thread.proofs.committing.turn.Goals as goal

pub returns-in_err-rebuild-clause-turned : goal.returns-in_err-rebuild-clause-turned
returns-in_err-rebuild-clause-turned g c =
    turned_still c.args.committer.now c.told_round.new.committer c.rebuild.new.committer c.told_round.ensures.turned c.rebuild.ensures.only.stays

pub returns-in_ok-rebuild-clause-turned : goal.returns-in_ok-rebuild-clause-turned
returns-in_ok-rebuild-clause-turned g c =
    turned_still c.args.committer.now c.told_round.new.committer c.rebuild.new.committer c.told_round.ensures.turned c.rebuild.ensures.only.stays

pub returns-in_err-rebuild-clause-listed : goal.returns-in_err-rebuild-clause-listed
returns-in_err-rebuild-clause-listed g c = listed_twice c.args.committer.now c.told_round.new.committer c.rebuild.new.committer c.told_round.ensures.listed c.rebuild.ensures.only.listed

pub returns-in_ok-rebuild-clause-listed : goal.returns-in_ok-rebuild-clause-listed
returns-in_ok-rebuild-clause-listed g c = listed_twice c.args.committer.now c.told_round.new.committer c.rebuild.new.committer c.told_round.ensures.listed c.rebuild.ensures.only.listed

pub returns-in_err-rebuild-clause-queue : goal.returns-in_err-rebuild-clause-queue
returns-in_err-rebuild-clause-queue g c = queue_twice c.args.committer.now c.told_round.new.committer c.rebuild.new.committer c.told_round.ensures.queue (queue_same c.told_round.new.committer c.rebuild.new.committer c.rebuild.ensures.only.stays.taker)

pub returns-in_ok-rebuild-clause-queue : goal.returns-in_ok-rebuild-clause-queue
returns-in_ok-rebuild-clause-queue g c = queue_twice c.args.committer.now c.told_round.new.committer c.rebuild.new.committer c.told_round.ensures.queue (queue_same c.told_round.new.committer c.rebuild.new.committer c.rebuild.ensures.only.stays.taker)

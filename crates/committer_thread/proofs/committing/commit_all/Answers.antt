use Rattle.committer_thread.proofs.Settling.{on_course_posted, on_course_still, queue_twice, turned_listed, turned_posted}
use Rattle.committer_thread.proofs.committing.commit_all.Goals as goal

pub returns-then-work-clause-posted : goal.returns-then-work-clause-posted
returns-then-work-clause-posted g c = on_course_posted c.args.committer.now c.loop.committer c.loop.invariant.1.1.1.0

pub loop-preserved-then-round-gt0 : goal.loop-preserved-then-round-gt0
loop-preserved-then-round-gt0 g c =
    let on = on_course_still c.args.committer.now c.loop.committer c.turn.new.committer c.loop.invariant.1.1.1.0 c.turn.ensures.turned c.in-Ok.ensures.settled c.turn.ensures.listed in
    let queue = queue_twice c.args.committer.now c.loop.committer c.turn.new.committer c.loop.invariant.1.1.1.1.0 c.turn.ensures.queue in
    (tt, (tt, (c.in-Ok.ensures.opening, (on, (queue, c.in-Ok.ensures.shown)))))

pub loop-preserved : goal.loop-preserved
loop-preserved g c =
    let on = on_course_still c.args.committer.now c.loop.committer c.turn.new.committer c.loop.invariant.1.1.1.0 c.turn.ensures.turned c.in-Ok-3.ensures.settled c.turn.ensures.listed in
    let queue = queue_twice c.args.committer.now c.loop.committer c.turn.new.committer c.loop.invariant.1.1.1.1.0 c.turn.ensures.queue in
    (tt, (tt, (c.in-Ok-3.ensures.opening, (on, (queue, c.in-Ok-3.ensures.shown)))))

pub returns-in-Ok-2-clause-listed : goal.returns-in-Ok-2-clause-listed
returns-in-Ok-2-clause-listed g c = turned_listed c.args.committer.now c.loop.committer c.turn.new.committer c.loop.invariant.1.1.1.0 c.turn.ensures.listed

pub returns-in-Ok-2-clause-posted : goal.returns-in-Ok-2-clause-posted
returns-in-Ok-2-clause-posted g c = turned_posted c.args.committer.now c.loop.committer c.turn.new.committer c.loop.invariant.1.1.1.0 c.turn.ensures.listed

pub returns-in-Ok-2-clause-all : goal.returns-in-Ok-2-clause-all
returns-in-Ok-2-clause-all g c = on_course_still c.args.committer.now c.loop.committer c.turn.new.committer c.loop.invariant.1.1.1.0 c.turn.ensures.turned c.in-Ok-2.ensures.settled c.turn.ensures.listed

pub returns-in-Err-clause-listed : goal.returns-in-Err-clause-listed
returns-in-Err-clause-listed g c = turned_listed c.args.committer.now c.loop.committer c.turn.new.committer c.loop.invariant.1.1.1.0 c.turn.ensures.listed

pub returns-in-Err-clause-posted : goal.returns-in-Err-clause-posted
returns-in-Err-clause-posted g c = turned_posted c.args.committer.now c.loop.committer c.turn.new.committer c.loop.invariant.1.1.1.0 c.turn.ensures.listed

pub returns-in-Ok-2-clause-queue : goal.returns-in-Ok-2-clause-queue
returns-in-Ok-2-clause-queue g c = queue_twice c.args.committer.now c.loop.committer c.turn.new.committer c.loop.invariant.1.1.1.1.0 c.turn.ensures.queue

pub returns-in-Err-clause-queue : goal.returns-in-Err-clause-queue
returns-in-Err-clause-queue g c = queue_twice c.args.committer.now c.loop.committer c.turn.new.committer c.loop.invariant.1.1.1.1.0 c.turn.ensures.queue

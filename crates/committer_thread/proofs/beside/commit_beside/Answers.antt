use Rattle.request_lists.specs.declared.builds.Builds.TheVariants.{Beside}
use Rattle.committer_thread.specs.Beside.{DoesGoBeside}
use Rattle.committer_thread.proofs.Settling.{listed_posted, on_course_first, on_course_posted, queue_first, queue_twice, turned_settles}
use Rattle.committer_thread.proofs.beside.commit_beside.Goals as goal

pub loop-init : goal.loop-init
loop-init g c = (tt, (tt, (c.requires.opening, (c.in_ok-begin_first.ensures.goes, queue_first c.args.committer.now))))

pub returns-in_err-begin_first-clause-settled : goal.returns-in_err-begin_first-clause-settled
returns-in_err-begin_first-clause-settled g c = (on_course_first {builds = Beside} c.args.committer.now c.requires.fresh).settled

pub returns-in_err-begin_first-clause-listed : goal.returns-in_err-begin_first-clause-listed
returns-in_err-begin_first-clause-listed g c = (on_course_first {builds = Beside} c.args.committer.now c.requires.fresh).listed

pub returns-in_err-begin_first-clause-posted : goal.returns-in_err-begin_first-clause-posted
returns-in_err-begin_first-clause-posted g c = on_course_posted c.args.committer.now c.args.committer.now (on_course_first {builds = Beside} c.args.committer.now c.requires.fresh)

pub returns-in_err-begin_first-clause-queue : goal.returns-in_err-begin_first-clause-queue
returns-in_err-begin_first-clause-queue g c = queue_first c.args.committer.now

pub turn_beside-requires-clause-goes : goal.turn_beside-requires-clause-goes
turn_beside-requires-clause-goes g c κs within = (let goes : DoesGoBeside c.loop.committer c.loop.rebuilds = (c.args.committer.now, c.loop.invariant.1.1.1.0) in goes)

pub returns-then-work-clause-settled : goal.returns-then-work-clause-settled
returns-then-work-clause-settled g c = c.loop.invariant.1.1.1.0.on.settled

pub returns-then-work-clause-listed : goal.returns-then-work-clause-listed
returns-then-work-clause-listed g c = c.loop.invariant.1.1.1.0.on.listed

pub returns-then-work-clause-posted : goal.returns-then-work-clause-posted
returns-then-work-clause-posted g c = on_course_posted c.args.committer.now c.loop.committer c.loop.invariant.1.1.1.0.on

pub returns-then-work-clause-queue : goal.returns-then-work-clause-queue
returns-then-work-clause-queue g c = c.loop.invariant.1.1.1.1

pub returns-then-work-clause-all : goal.returns-then-work-clause-all
returns-then-work-clause-all g c = c.loop.invariant.1.1.1.0.on

pub returns-then-work-clause-opening : goal.returns-then-work-clause-opening
returns-then-work-clause-opening g c = c.loop.invariant.1.1.0

pub loop-preserved-then-round-gt0 : goal.loop-preserved-then-round-gt0
loop-preserved-then-round-gt0 g c =
    let goes = c.in-Ok.ensures.goes c.args.committer.now c.loop.invariant.1.1.1.0 in
    let queue = queue_twice c.args.committer.now c.loop.committer c.turn_beside.new.committer c.loop.invariant.1.1.1.1 c.turn_beside.ensures.queue in
    (tt, (tt, (c.in-Ok.ensures.opening, (goes, queue))))

pub loop-preserved : goal.loop-preserved
loop-preserved g c =
    let goes = c.in-Ok-3.ensures.goes c.args.committer.now c.loop.invariant.1.1.1.0 in
    let queue = queue_twice c.args.committer.now c.loop.committer c.turn_beside.new.committer c.loop.invariant.1.1.1.1 c.turn_beside.ensures.queue in
    (tt, (tt, (c.in-Ok-3.ensures.opening, (goes, queue))))

pub returns-in-Ok-2-clause-settled : goal.returns-in-Ok-2-clause-settled
returns-in-Ok-2-clause-settled g c = (c.in-Ok-2.ensures.goes c.args.committer.now c.loop.invariant.1.1.1.0).on.settled

pub returns-in-Ok-2-clause-listed : goal.returns-in-Ok-2-clause-listed
returns-in-Ok-2-clause-listed g c = (c.in-Ok-2.ensures.goes c.args.committer.now c.loop.invariant.1.1.1.0).on.listed

pub returns-in-Ok-2-clause-posted : goal.returns-in-Ok-2-clause-posted
returns-in-Ok-2-clause-posted g c = on_course_posted c.args.committer.now c.turn_beside.new.committer (c.in-Ok-2.ensures.goes c.args.committer.now c.loop.invariant.1.1.1.0).on

pub returns-in-Ok-2-clause-queue : goal.returns-in-Ok-2-clause-queue
returns-in-Ok-2-clause-queue g c = queue_twice c.args.committer.now c.loop.committer c.turn_beside.new.committer c.loop.invariant.1.1.1.1 c.turn_beside.ensures.queue

pub returns-in-Ok-2-clause-all : goal.returns-in-Ok-2-clause-all
returns-in-Ok-2-clause-all g c = (c.in-Ok-2.ensures.goes c.args.committer.now c.loop.invariant.1.1.1.0).on

pub returns-in-Ok-2-clause-opening : goal.returns-in-Ok-2-clause-opening
returns-in-Ok-2-clause-opening g c = c.in-Ok-2.ensures.opening

pub returns-in-Err-clause-settled : goal.returns-in-Err-clause-settled
returns-in-Err-clause-settled g c = turned_settles c.args.committer.now c.loop.committer c.turn_beside.new.committer c.loop.invariant.1.1.1.0.on c.turn_beside.ensures.turned

pub returns-in-Err-clause-listed : goal.returns-in-Err-clause-listed
returns-in-Err-clause-listed g c = c.turn_beside.ensures.listed c.args.committer.now c.loop.invariant.1.1.1.0

pub returns-in-Err-clause-posted : goal.returns-in-Err-clause-posted
returns-in-Err-clause-posted g c = listed_posted c.args.committer.now c.turn_beside.new.committer (c.turn_beside.ensures.listed c.args.committer.now c.loop.invariant.1.1.1.0)

pub returns-in-Err-clause-queue : goal.returns-in-Err-clause-queue
returns-in-Err-clause-queue g c = queue_twice c.args.committer.now c.loop.committer c.turn_beside.new.committer c.loop.invariant.1.1.1.1 c.turn_beside.ensures.queue

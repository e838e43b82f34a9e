use Rattle.intake.proofs.queue.+tell.Given as goal

abbrev pub decreases-tell : goal.decreases-tell
decreases-tell l = l.start

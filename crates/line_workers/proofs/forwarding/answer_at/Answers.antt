use Rattle.line_workers.proofs.NewestAnswers.{some_wider}
use Rattle.line_workers.proofs.forwarding.answer_at.Goals as goal

pub returns-else-not-await_turn-clause-newest : goal.returns-else-not-await_turn-clause-newest
returns-else-not-await_turn-clause-newest g c =
    let old = c.args.forwarder.now.forwarder in
    let from = c.answer_of.new.forwarder.forwarder in
    let new = c.answer_of-in-NotCarried-GenerationGone.new.forwarder.forwarder in
    some_wider old from new c.args.asked.now c.answer_of-in-NotCarried-GenerationGone.result c.answer_of.ensures.kept c.answer_of-in-NotCarried-GenerationGone.ensures.newest

use Rattle.std.proofs.Common.{◌∙◌}
use Rattle.line_workers.proofs.Standing.{state_said, told_said}
use Rattle.line_workers.proofs.waiting.state_of.Goals as goal

pub returns-clause-answers : goal.returns-clause-answers
returns-clause-answers g c =
    let stand = c.args.standing.now.stand in
    told_said c.history.result stand.told (c.history.ensures ∙ c.told.ensures.same) (state_said stand.told stand.count c.args.newest c.args.standing.now.queue stand.counted c.requires)

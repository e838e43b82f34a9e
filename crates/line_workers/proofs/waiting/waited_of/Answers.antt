use Rattle.std.proofs.Common.{◌∙◌}
use Rattle.line_workers.proofs.Standing.{told_said, waited_said}
use Rattle.line_workers.proofs.waiting.waited_of.Goals as goal

pub returns-clause-answers : goal.returns-clause-answers
returns-clause-answers g c =
    let stand = c.args.standing.now.stand in
    told_said c.history.result stand.told (c.history.ensures ∙ c.told.ensures.same) (waited_said stand.told c.args.newest c.requires)

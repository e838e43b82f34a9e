use Rattle.std.proofs.Common.{ap, ◌∙◌}
use Rattle.live_lines.specs.declared.metrics.Metrics.{Metrics}
use Rattle.line_workers.proofs.Standing.{metrics_said, told_said}
use Rattle.line_workers.proofs.waiting.metrics_of.Goals as goal

pub returns-clause-answers : goal.returns-clause-answers
returns-clause-answers g c =
    let stand = c.args.standing.now.stand in
    let is = c.in_ok-boxed.ensures.ok in
    told_said c.history.result stand.told (c.history.ensures ∙ c.told.ensures.same)
    (metrics_said stand.told c.in_ok-boxed.boxed stand.count c.args.newest (ap (λ (m : Metrics). m.count) is) (ap (λ (m : Metrics). m.generation) is) stand.counted c.requires)

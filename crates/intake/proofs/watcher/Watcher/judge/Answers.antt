use Rattle.std.proofs.Common.{◌≡◌, ap, ◌∙◌}
use Rattle.generations.specs.Knowledges.{Knowledge}
use Rattle.generations.specs.Beginnings.{board_after}
use Rattle.intake.specs.Outcomes.{refusal_on}
use Rattle.intake.specs.Watchers.{Watching}
use Rattle.intake.proofs.watcher.Watcher.judge.Goals as goal

pub returns-in-Ok-clause-refusal : goal.returns-in-Ok-clause-refusal
returns-in-Ok-clause-refusal c =
    let w = c.self.inside in
    let known : c.known.result ≡ c.in-Ok.look = c.known.ensures.all ∙ ap (λ (k : Knowledge). k.all) c.leave-reader.ensures in
    let whole : c.refusal_of-refusal.result ≡ refusal_on (board_after c.known.result) w.session c.args.start w.last c.args.ticket = rw (known, ← c.board.ensures.fold) c.refusal_of-refusal.ensures in
    whole ∙ ap (λ (x : Watching). refusal_on (board_after c.known.result) x.session c.args.start x.last c.args.ticket) c.self.view_is

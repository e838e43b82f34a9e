use Rattle.std.proofs.Common.{ap, sym, ◌∙◌}
use Rattle.std.proofs.lemmas.Result.{IfOk-weaker}
use Rattle.intake.specs.Editors.{Editing}
use Rattle.committer.specs.CommitterWords.{posts_of}
use Rattle.device_commands.proofs.OneRound.{looked, told_by}
use Rattle.device_commands.proofs.one_round.outcome.Goals as goal

pub returns-in-Ok-clause-told : goal.returns-in-Ok-clause-told
returns-in-Ok-clause-told g c =
    let posts = posts_of c.args.committer.now in
    let seen = c.standing-standing.new.self in
    let first = c.learn.ensures.same in
    let then = c.standing-standing.ensures.same in
    let known = looked posts c.told-told.result c.learn.new.self.known seen.known c.known.result c.history.result c.covers-3.result c.told-told.ensures.posted c.learn.ensures.learnt c.standing-standing.ensures.kept c.known.ensures c.history.ensures c.covers-3.ensures c.if-not-covers.false in
    IfOk-weaker c.verdict.result _ _
    (λ v is. told_by posts c.args.editor.now seen is.0 v
    (ap (λ (e : Editing). e.session) then ∙ ap (λ (e : Editing). e.session) first) (ap (λ (e : Editing). e.put) then ∙ ap (λ (e : Editing). e.put) first) known
    (sym is.1 ∙ c.in-Ok.ensures.standing) is.2)
    c.verdict.ensures.told

use Rattle.std.proofs.Common.{ap, sym, ◌∙◌}
use Rattle.intake.specs.Turns.{last_asked}
use Rattle.intake.specs.Watchers.{Watching}
use Rattle.intake.proofs.Refusals.{asked_push}
use Rattle.intake.proofs.editor.Editor.put.Goals as goal

pub invariant_of-self : goal.invariant_of-self
invariant_of-self g c =
    let s = c.self.inside.sender in
    (search, ap (λ (w : Watching). w.last) c.note.ensures ∙ sym (ap last_asked c.in-Ok.ensures.put ∙ asked_push s.put (record { session = c.session.result; ticket = c.args.ticket; change = c.args.change })))

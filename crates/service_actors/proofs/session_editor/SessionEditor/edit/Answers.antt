use Rattle.service_actors.proofs.Resting.{rests_after}
use Rattle.service_actors.proofs.session_editor.SessionEditor.edit.Goals as goal

pub invariant_of-editor-clause-at_rest : goal.invariant_of-editor-clause-at_rest
invariant_of-editor-clause-at_rest g c =
    rests_after c.args.self.editor c.edit_as_asked.new.editor c.args.self.told c.told_after.result c.args.change c.match-ticket.ticket c.in_ok-end.end c.in_ok-end.ensures.same c.in_ok-end.ensures.ended
    c.told_after.ensures.settled c.told_after.ensures.others c.args.self.at_rest

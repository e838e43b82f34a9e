use Rattle.std.proofs.Common.{rules}
use Rattle.service_actors.proofs.AsAsked.{settled_as_asked}
use Rattle.service_actors.proofs.Resting.{before_as_asked}
use Rattle.service_actors.proofs.session_editor.edit_as_asked.Goals as goal

pub returns-in_ok-settled-in-In-clause-ended : goal.returns-in_ok-settled-in-In-clause-ended
returns-in_ok-settled-in-In-clause-ended g c =
    settled_as_asked c.args.editor.now c.put_as_asked.new.editor c.settled.new.editor c.args.change c.args.ticket c.in_ok-settled-in-In.field-0 c.in_ok-put_as_asked.ensures.same c.in_ok-settled-in-In.ensures.same
    c.in_ok-settled-in-In.ensures.none_put (search rules) c.in_ok-settled-in-In.ensures.mark

pub returns-else-is_none-clause-ended : goal.returns-else-is_none-clause-ended
returns-else-is_none-clause-ended g c =
    before_as_asked c.args.editor.now c.put_as_asked.new.editor c.args.told c.args.change c.args.ticket c.told_before-end.result c.in_ok-put_as_asked.ensures.same (search rules) c.requires.at_rest c.told_before-end.ensures

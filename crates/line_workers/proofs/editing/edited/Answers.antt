use Rattle.std.proofs.Common.{rules}
use Rattle.line_workers.proofs.OldTickets.{end_said, settled_fits, settled_put}
use Rattle.line_workers.proofs.editing.edited.Goals as goal

pub returns-in-Settled-clause-said : goal.returns-in-Settled-clause-said
returns-in-Settled-clause-said g c =
    end_said c.args.editor.editor c.in_ok-editor.editor.editor c.args.session c.args.ticket c.args.change c.in_ok-editor.ticket c.in_ok-editor.end _ c.in-Settled.is (search rules) c.in_ok-editor.ensures.ended

pub returns-in-AlreadyIn-clause-said : goal.returns-in-AlreadyIn-clause-said
returns-in-AlreadyIn-clause-said g c =
    end_said c.args.editor.editor c.in_ok-editor.editor.editor c.args.session c.args.ticket c.args.change c.in_ok-editor.ticket c.in_ok-editor.end _ c.in-AlreadyIn.is (search rules) c.in_ok-editor.ensures.ended

pub returns-in-RefusedBefore-clause-said : goal.returns-in-RefusedBefore-clause-said
returns-in-RefusedBefore-clause-said g c =
    end_said c.args.editor.editor c.in_ok-editor.editor.editor c.args.session c.args.ticket c.args.change c.in_ok-editor.ticket c.in_ok-editor.end _ c.in-RefusedBefore.is (search rules) c.in_ok-editor.ensures.ended

pub returns-in-OldTicket-clause-said : goal.returns-in-OldTicket-clause-said
returns-in-OldTicket-clause-said g c =
    end_said c.args.editor.editor c.in_ok-editor.editor.editor c.args.session c.args.ticket c.args.change c.in_ok-editor.ticket c.in_ok-editor.end _ c.in-OldTicket.is (search rules) c.in_ok-editor.ensures.ended

pub returns-in-Settled-clause-put : goal.returns-in-Settled-clause-put
returns-in-Settled-clause-put g c = settled_put c.args.editor.editor c.in_ok-editor.editor.editor c.args.change c.in_ok-editor.ticket c.in_ok-editor.end c.in-Settled.mark c.in-Settled.is c.in_ok-editor.ensures.ended

pub returns-in-Settled-clause-fits : goal.returns-in-Settled-clause-fits
returns-in-Settled-clause-fits g c =
    settled_fits c.args.editor.editor c.in_ok-editor.editor.editor c.args.session c.args.ticket c.args.change c.in_ok-editor.ticket c.in_ok-editor.end c.in-Settled.mark c.in-Settled.is (search rules) c.in_ok-editor.ensures.ticket
    c.in_ok-editor.ensures.ended

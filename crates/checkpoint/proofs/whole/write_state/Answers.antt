use Rattle.checkpoint.proofs.Wholes.{no_tickets, ok_with}
use Rattle.checkpoint.proofs.whole.write_state.Goals as goal

pub returns-clause-ok : goal.returns-clause-ok
returns-clause-ok g c = ok_with c.write_with.result c.write_with.ensures.ok (λ all. all no_tickets)

pub returns-clause-any_moment : goal.returns-clause-any_moment
returns-clause-any_moment g c = c.write_with.ensures.any_moment no_tickets

use Rattle.migrate.proofs.moving.migrate.Goals as goal

pub returns-clause-ok : goal.returns-clause-ok
returns-clause-ok g c old_model new_model = (c.in_ok-moved.moved.edges, c.in_ok-moved.ensures.ok old_model new_model)

use Rattle.checkpoint.proofs.Wholes.{are_tickets, ok_with}
use Rattle.checkpoint.proofs.store.Store.write_to.Goals as goal

pub returns-clause-ok : goal.returns-clause-ok
returns-clause-ok g c model up =
    ok_with c.write_with.result c.write_with.ensures.ok (λ all. all (are_tickets c.args.self.now model up (g.met.D.Disk.present c.args.self.now.disk model)))

pub returns-clause-any_moment : goal.returns-clause-any_moment
returns-clause-any_moment g c model up = c.write_with.ensures.any_moment (are_tickets c.args.self.now model up (g.met.D.Disk.present c.args.self.now.disk model))

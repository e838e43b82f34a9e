use Rattle.std.proofs.Common.{List, ◌+◌, sym, ap, subst, ◌∙◌}
use Rattle.graph_edits.specs.Rows.{Row, lists, network_of, AreRows}
use Rattle.graph_edits.proofs.InPlace.{one_kept, one_more}
use Rattle.graph_edits.proofs.graph.Graph.add.Goals as goal

pub invariant_of-self-2 : goal.invariant_of-self-2
invariant_of-self-2 c =
    let s = c.self.inside in
    subst (λ (rows : List Row). AreRows rows (s.edges + 1)) (sym c.in_ok-put_both.ensures.ok)
    (one_kept (lists s.rows.items) s.edges c.args.a c.args.b c.args.weight c.args.self.now c.self.invariant c.self.view_is c.requires)

pub returns-clause-ok : goal.returns-clause-ok
returns-clause-ok c =
    let s = c.self.inside in
    ap (λ (rows : List Row). network_of rows) c.in_ok-put_both.ensures.ok ∙ one_more (lists s.rows.items) s.edges c.args.a c.args.b c.args.weight c.args.self.now c.self.invariant c.self.view_is c.requires

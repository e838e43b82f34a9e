use Rattle.std.proofs.Common.{List, sym, ap, subst, ◌∙◌}
use Rattle.graph_edits.specs.Rows.{Row, lists, network_of, AreRows}
use Rattle.graph_edits.specs.Changes.{count_after}
use Rattle.graph_edits.proofs.InPlace.{op_kept, op_fits, op_made}
use Rattle.graph_edits.proofs.graph.Graph.make.Goals as goal

pub edges_then-self-inside-requires : goal.edges_then-self-inside-requires
edges_then-self-inside-requires c =
    let s = c.self.inside in
    op_fits (lists s.rows.items) s.edges c.args.op c.args.self.now c.self.invariant c.self.view_is c.requires

pub invariant_of-self-2 : goal.invariant_of-self-2
invariant_of-self-2 c =
    let s = c.self.inside in
    subst (λ n. AreRows (lists c.write_both.new.rows.items) n) (sym c.edges_then-self-inside.ensures)
    (subst (λ (rows : List Row). AreRows rows (count_after s.edges c.args.op)) (sym c.in_ok-write_both.ensures.ok)
    (op_kept (lists s.rows.items) s.edges c.args.op c.args.self.now c.self.invariant c.self.view_is c.requires))

pub returns-clause-ok : goal.returns-clause-ok
returns-clause-ok c =
    let s = c.self.inside in
    ap (λ (rows : List Row). network_of rows) c.in_ok-write_both.ensures.ok ∙ op_made (lists s.rows.items) s.edges c.args.op c.args.self.now c.self.invariant c.self.view_is c.requires

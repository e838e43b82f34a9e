use Rattle.std.proofs.Common.{◌≡◌, ◌<◌, sym, ◌∙◌, ap, arith, subst, T, nat_cmp, length}
use Rattle.std.proofs.lemmas.List.{length-map}
use Rattle.std.specs.FinMap.{is_sorted, find}
use Rattle.graph_edits.specs.Rows.{lists}
use Rattle.graph_edits.specs.Edges.{weight_in}
use Rattle.graph_edits.proofs.Networks.{weight_rows, row_read}
use Rattle.graph_edits.proofs.graph.Graph.weight.Goals as goal

pub value_of-requires : goal.value_of-requires
value_of-requires c =
    let n : length (lists c.self.inside.rows.items) ≡ c.args.self.now.nodes = ap (λ g. g.nodes) c.self.view_is in
    let within : c.args.a < length c.self.inside.rows.items = omega (arith, length-map c.self.inside.rows.items (λ row. row.items)) in
    subst (λ r. T (is_sorted nat_cmp r)) (row_read c.self.inside.rows.items c.args.a c.index.result.now within c.index.ensures ∙ sym c.deref.ensures.value) (c.self.invariant.sorted c.args.a)

pub returns : goal.returns
returns c =
    let n : length (lists c.self.inside.rows.items) ≡ c.args.self.now.nodes = ap (λ g. g.nodes) c.self.view_is in
    let within : c.args.a < length c.self.inside.rows.items = omega (arith, length-map c.self.inside.rows.items (λ row. row.items)) in
    c.value_of.ensures
    ∙ ap (find nat_cmp c.args.b) (c.deref.ensures.value ∙ sym (row_read c.self.inside.rows.items c.args.a c.index.result.now within c.index.ensures))
    ∙ sym (weight_rows (lists c.self.inside.rows.items) c.self.inside.edges c.self.invariant c.args.a c.args.b)
    ∙ ap (λ g. weight_in g c.args.a c.args.b) c.self.view_is

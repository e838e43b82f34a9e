use Rattle.std.proofs.Common.{◌≡◌, sym, ap, ◌∙◌}
use Rattle.std.specs.Option.{unwrap_or}
use Rattle.std.specs.FinMap.{find}
use Rattle.graph_edits.specs.Edges.{pair_cmp, pair_of, weight_in}
use Rattle.graph_edits.proofs.Laying.{get-overlaid}
use Rattle.graph_edits.proofs.overlay.Overlay.weight.Goals as goal

pub returns-in-Some : goal.returns-in-Some
returns-in-Some c =
    let es = c.self.inside.changed.items in
    let found : find pair_cmp (pair_of c.args.a c.args.b) es ≡ c.value_of.result = (λ i. find pair_cmp (sym c.pair.ensures i) (sym c.deref.ensures.value i)) ∙ sym c.value_of.ensures in
    sym (ap (λ g. weight_in g c.args.a c.args.b) (sym c.self.view_is)
    ∙ get-overlaid c.self.inside.graph.now.edges es (pair_of c.args.a c.args.b)
    ∙ ap (λ x. unwrap_or x (weight_in c.self.inside.graph.now c.args.a c.args.b)) (found ∙ c.in-Some.is))

pub returns-in-None : goal.returns-in-None
returns-in-None c =
    let es = c.self.inside.changed.items in
    let found : find pair_cmp (pair_of c.args.a c.args.b) es ≡ c.value_of.result = (λ i. find pair_cmp (sym c.pair.ensures i) (sym c.deref.ensures.value i)) ∙ sym c.value_of.ensures in
    c.weight.ensures
    ∙ sym (ap (λ g. weight_in g c.args.a c.args.b) (sym c.self.view_is)
    ∙ get-overlaid c.self.inside.graph.now.edges es (pair_of c.args.a c.args.b)
    ∙ ap (λ x. unwrap_or x (weight_in c.self.inside.graph.now c.args.a c.args.b)) (found ∙ c.in-None.is))

use Rattle.std.proofs.Common.{◌≡◌, sym, ap, ◌∙◌, subst}
use Rattle.graph_edits.specs.Rows.{lists, network_of}
use Rattle.graph_edits.specs.Placed.{placed, rows_of, IsPrepared}
use Rattle.graph_edits.proofs.Preparing.{rows_before, nothing_prepared}
use Rattle.graph_edits.proofs.graph.Graph.preparation.Goals as goal

pub invariant_of-result : goal.invariant_of-result
invariant_of-result c =
    let base = c.self.inside.rows.items in
    let same : network_of (lists base) ≡ c.of.result.value = c.self.view_is ∙ sym c.of.ensures in
    subst (λ es. IsPrepared c.of.result.value es c.self.inside.edges) (sym c.new.ensures.items) (nothing_prepared (lists base) c.self.inside.edges c.of.result.value c.self.invariant same)

pub returns-clause-after : goal.returns-clause-after
returns-clause-after c =
    let base = c.self.inside.rows.items in
    let same : network_of (lists base) ≡ c.of.result.value = c.self.view_is ∙ sym c.of.ensures in
    ap (λ es. network_of (placed (rows_of c.of.result.value) es)) c.new.ensures.items
    ∙ ap network_of (rows_before (lists base) c.self.inside.edges c.of.result.value c.self.invariant same)
    ∙ c.self.view_is

use Rattle.std.proofs.Common.{sym, ap, ◌∙◌, subst, T}
use Rattle.std.specs.FinMap.{len, is_sorted}
use Rattle.graph_edits.specs.Edges.{pair_cmp}
use Rattle.graph_edits.specs.Overlays.{overlaid}
use Rattle.graph_edits.proofs.overlay.Overlay.over.Goals as goal

pub invariant_of-result : goal.invariant_of-result
invariant_of-result c = record {
  sorted = subst (λ es. T (is_sorted pair_cmp es)) (sym c.new.ensures.items) tt;
  counted = c.edge_count.ensures.edges ∙ ap (λ es. len (overlaid c.args.graph.now.edges es)) (sym c.new.ensures.items);
  few_edges = c.edge_count.ensures.few;
}

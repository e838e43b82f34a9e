use Rattle.std.proofs.Common.{◌≡◌, ◌≤◌, ◌+◌, T, sym, ap, ◌∙◌, drop, get_or, None, subst, arith, length}
use Rattle.std.specs.FinMap.{len, is_sorted}
use Rattle.std.specs.FinMap.Entries.{is_sorted-put}
use Rattle.graph_edits.specs.Edges.{pair_cmp, pair_of, most_edges}
use Rattle.graph_edits.specs.Overlays.{overlaid}
use Rattle.graph_edits.specs.Changes.{edges_after, err_of, refusal_at, CountFits, count_after, first_node, second_node, op_weight}
use Rattle.graph_edits.specs.declared.edits.Op.TheVariants.{Add}
use Rattle.graph_edits.proofs.EdgesOfRows.{pair_total}
use Rattle.graph_edits.proofs.Applied.{not_refused_at, passed_step, count_fits, count_step, count_few}
use Rattle.graph_edits.proofs.Laying.{overlaid_op}
use Rattle.graph_edits.proofs.overlay.Overlay.apply.Goals as goal

pub edges_then-self-inside-requires : goal.edges_then-self-inside-requires
edges_then-self-inside-requires c =
    let m = overlaid c.loop-op.self-inside.graph.now.edges c.loop-op.self-inside.changed.items in
    let ops = c.ops-ops.result.now in
    let op = get_or ops c.loop-op.op-index (Add 0 0 0) in
    let accepted : refusal_at c.args.self.now.nodes m op ≡ None = not_refused_at c.args.self.now.nodes m ops c.loop-op.op-index (Add 0 0 0) c.loop-op-test.true
    (ap err_of (sym c.loop-op.invariant.rest) ∙ sym c.first_refused.ensures ∙ c.in_default.is) in
    subst (λ n. CountFits n op) (sym c.loop-op.invariant.kept.counted) (count_fits c.args.self.now.nodes m op accepted)

pub loop-op-preserved : goal.loop-op-preserved
loop-op-preserved c =
    let es = c.loop-op.self-inside.changed.items in
    let base = c.loop-op.self-inside.graph.now.edges in
    let m = overlaid base es in
    let ops = c.ops-ops.result.now in
    let op = get_or ops c.loop-op.op-index (Add 0 0 0) in
    let accepted : refusal_at c.args.self.now.nodes m op ≡ None = not_refused_at c.args.self.now.nodes m ops c.loop-op.op-index (Add 0 0 0) c.loop-op-test.true
    (ap err_of (sym c.loop-op.invariant.rest) ∙ sym c.first_refused.ensures ∙ c.in_default.is) in
    let fits : CountFits c.loop-op.self-inside.edges op = subst (λ n. CountFits n op) (sym c.loop-op.invariant.kept.counted) (count_fits c.args.self.now.nodes m op accepted) in
    let next = ap (overlaid base) c.lay.ensures.items ∙ overlaid_op base es op in
    record {
      kept = record {
        sorted = subst (λ l. T (is_sorted pair_cmp l)) (sym c.lay.ensures.items) (is_sorted-put pair_cmp pair_total (pair_of (first_node op) (second_node op)) (op_weight op) es c.loop-op.invariant.kept.sorted);
        counted = c.edges_then-self-inside.ensures ∙ ap (λ n. count_after n op) c.loop-op.invariant.kept.counted ∙ sym (count_step c.args.self.now.nodes m op accepted) ∙ ap len (sym next);
        few_edges = subst (λ n. n ≤ most_edges) (sym c.edges_then-self-inside.ensures) (count_few c.loop-op.self-inside.edges op fits c.loop-op.invariant.kept.few_edges);
      };
      nodes = c.loop-op.invariant.nodes;
      rest = c.loop-op.invariant.rest ∙ passed_step c.args.self.now.nodes m ops c.loop-op.op-index (Add 0 0 0) c.loop-op-test.true accepted
          ∙ ap (λ e. edges_after c.args.self.now.nodes e (c.loop-op.op-index + 1) (drop (c.loop-op.op-index + 1) ops)) (sym next);
      room = omega (arith, c.lay.ensures.len, c.lay.ensures.capacity, c.loop-op.invariant.room, c.loop-op-test.true, c.ops-ops.ensures.few, ap length c.ops-ops.ensures.ops);
    }

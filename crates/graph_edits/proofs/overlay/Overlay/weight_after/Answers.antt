use Rattle.std.proofs.Common.{sym, ap, ◌∙◌, cond, take, get_or}
use Rattle.graph_edits.specs.Edges.{weight_between}
use Rattle.graph_edits.specs.Rows.{joins}
use Rattle.graph_edits.specs.Changes.{edges_by, first_node, second_node, op_weight}
use Rattle.graph_edits.specs.declared.edits.Op.TheVariants.{Add}
use Rattle.graph_edits.proofs.Applied.{weight_step, by_step}
use Rattle.graph_edits.proofs.overlay.Overlay.weight_after.Goals as goal

pub loop-op-preserved : goal.loop-op-preserved
loop-op-preserved c =
    let op = get_or c.args.ops.now c.loop-op.op-index (Add 0 0 0) in
    c.weight_then-weight.ensures
    ∙ ap (cond (joins (first_node op) (second_node op) c.args.a c.args.b) (op_weight op)) c.loop-op.invariant
    ∙ sym (weight_step (edges_by c.args.self.now.edges (take c.loop-op.op-index c.args.ops.now)) op c.args.a c.args.b)
    ∙ ap (λ m. weight_between m c.args.a c.args.b) (sym (by_step c.args.self.now.edges c.args.ops.now c.loop-op.op-index (Add 0 0 0) c.loop-op-test.true))

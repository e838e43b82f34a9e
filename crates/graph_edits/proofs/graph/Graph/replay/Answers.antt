use Rattle.std.proofs.Common.{◌∙◌, ◌+◌, ap, sym, take, drop, get_or}
use Rattle.graph_edits.specs.declared.edits.Op.{Op}
use Rattle.graph_edits.specs.declared.edits.Op.TheVariants.{Add}
use Rattle.graph_edits.specs.Changes.{edges_after, edges_after_op, refusal_at, with_ops}
use Rattle.graph_edits.specs.Edges.{Network, EdgeMap}
use Rattle.graph_edits.proofs.Applied.{by_step, passed_step}
use Rattle.graph_edits.proofs.graph.Graph.replay.Goals as goal

-- the network after one op that is not refused
abbrev then_op : Op → Network → Network
then_op op g = record { nodes = g.nodes; edges = edges_after_op g.edges op }

-- the network with other edges
abbrev with_edges : Network → EdgeMap → Network
with_edges g m = record { nodes = g.nodes; edges = m }

pub loop-index-preserved : goal.loop-index-preserved
loop-index-preserved c =
    let g = c.args.self.now in
    let ops = c.ops-op-items.result.now in
    let same = c.ops-op-items.ensures.ops in
    let i = c.loop-index.index in
    let s = c.loop-index.self in
    let op = get_or ops i (Add 0 0 0) in
    let before = c.loop-index.invariant in
    record {
      made = c.in_ok-replay_op.ensures.made ∙ ap (then_op op) (before.made ∙ ap (λ l. with_ops g (take i l)) (sym same))
          ∙ ap (with_edges g) (sym (by_step g.edges ops i (Add 0 0 0) c.loop-index-test.true)) ∙ ap (λ l. with_ops g (take (i + 1) l)) same;
      rest = before.rest ∙ ap (λ l. edges_after g.nodes s.edges i (drop i l)) (sym same)
          ∙ passed_step g.nodes s.edges ops i (Add 0 0 0) c.loop-index-test.true (ap (λ n. refusal_at n.nodes s.edges op) (sym before.made) ∙ c.in_ok-replay_op.ensures.passed)
          ∙ ap (λ n. edges_after g.nodes n.edges (i + 1) (drop (i + 1) ops)) (sym c.in_ok-replay_op.ensures.made)
          ∙ ap (λ l. edges_after g.nodes c.replay_op.new.self.edges (i + 1) (drop (i + 1) l)) same;
    }

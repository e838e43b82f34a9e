use Rattle.std.proofs.Common.{◌≡◌, ℕ, ◌+◌, ◌<◌, sym, ap, ◌∙◌, subst, drop, get_or, length, None, List}
use Rattle.std.proofs.lemmas.List.{length-map}
use Rattle.graph_edits.specs.Edges.{EdgeMap}
use Rattle.graph_edits.specs.Rows.{lists, edges_from}
use Rattle.graph_edits.specs.Placed.{placed}
use Rattle.graph_edits.specs.Changes.{edges_after, err_of, refusal_at, CountFits}
use Rattle.graph_edits.specs.declared.edits.Op.{Op}
use Rattle.graph_edits.specs.declared.edits.Op.TheVariants.{Add}
use Rattle.graph_edits.proofs.Applied.{not_refused_at, passed_step, count_fits, ends_in}
use Rattle.graph_edits.proofs.Making.{ends_apart, kept_with, edges_with}
use Rattle.graph_edits.proofs.Placing.{length-placed}
use Rattle.graph_edits.proofs.prepared.rewrite_all.Goals as goal

-- no op is refused, so this one is not
accepted_at : (n : ℕ) (m after : EdgeMap) (ops : List Op) (i : ℕ) → i < length ops → err_of (edges_after n m 0 ops) ≡ None → edges_after n m 0 ops ≡ edges_after n after i (drop i ops) → refusal_at n after (get_or ops i (Add 0 0 0)) ≡ None
accepted_at n m after ops i lt ok rest = not_refused_at n after ops i (Add 0 0 0) lt (ap err_of (sym rest) ∙ ok)

pub rewrite-requires-clause-ends : goal.rewrite-requires-clause-ends
rewrite-requires-clause-ends c =
    ends_in (length c.args.base.now) (edges_from 0 (placed (lists c.args.base.now) c.loop-op.rows.items)) (get_or c.args.ops.now c.loop-op.op-index (Add 0 0 0))
    (accepted_at (length c.args.base.now) _ _ c.args.ops.now c.loop-op.op-index c.loop-op-test.true c.requires.accepted c.loop-op.invariant.rest)

pub rewrite-requires-clause-apart : goal.rewrite-requires-clause-apart
rewrite-requires-clause-apart c =
    ends_apart (length c.args.base.now) (edges_from 0 (placed (lists c.args.base.now) c.loop-op.rows.items)) (get_or c.args.ops.now c.loop-op.op-index (Add 0 0 0))
    (accepted_at (length c.args.base.now) _ _ c.args.ops.now c.loop-op.op-index c.loop-op-test.true c.requires.accepted c.loop-op.invariant.rest)

pub edges_then-requires : goal.edges_then-requires
edges_then-requires c =
    let m = edges_from 0 (placed (lists c.args.base.now) c.loop-op.rows.items) in
    let op = get_or c.args.ops.now c.loop-op.op-index (Add 0 0 0) in
    subst (λ n. CountFits n op) (sym c.loop-op.invariant.rows.counted) (count_fits (length c.args.base.now) m op
    (accepted_at (length c.args.base.now) _ _ c.args.ops.now c.loop-op.op-index c.loop-op-test.true c.requires.accepted c.loop-op.invariant.rest))

pub loop-op-preserved : goal.loop-op-preserved
loop-op-preserved c =
    let rows = placed (lists c.args.base.now) c.loop-op.rows.items in
    let op = get_or c.args.ops.now c.loop-op.op-index (Add 0 0 0) in
    let n = length c.args.base.now in
    let accepted : refusal_at n (edges_from 0 rows) op ≡ None = accepted_at n _ _ c.args.ops.now c.loop-op.op-index c.loop-op-test.true c.requires.accepted c.loop-op.invariant.rest in
    let many : length rows ≡ n = length-placed (lists c.args.base.now) c.loop-op.rows.items ∙ length-map c.args.base.now (λ row. row.items) in
    let here : refusal_at (length rows) (edges_from 0 rows) op ≡ None = subst (λ k. refusal_at k (edges_from 0 rows) op ≡ None) (sym many) accepted in
    let made = c.in_ok-rewrite.ensures.rows in
    record {
      slots = c.in_ok-rewrite.ensures.slots;
      rows = rw (made, c.edges_then.ensures) (kept_with rows c.loop-op.edges op c.loop-op.invariant.rows here);
      rest = c.loop-op.invariant.rest ∙ passed_step n (edges_from 0 rows) c.args.ops.now c.loop-op.op-index (Add 0 0 0) c.loop-op-test.true accepted
          ∙ ap (λ e. edges_after n e (c.loop-op.op-index + 1) (drop (c.loop-op.op-index + 1) c.args.ops.now)) (sym (ap (edges_from 0) made ∙ edges_with rows op here));
    }

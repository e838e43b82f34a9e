use Rattle.std.proofs.Common.{◌≡◌, ◌≤◌, ℕ, sym, ap, ◌∙◌, Bool, take, drop, ◌+◌, get_or, None, subst}
use Rattle.std.specs.FinMap.{len}
use Rattle.std.specs.Option.{is_some}
use Rattle.graph_edits.specs.Edges.{EdgeMap, weight_between, most_edges}
use Rattle.graph_edits.specs.Changes.{edges_by, edges_after_within, refusal_within, refusal_at_within, CountFits, count_after, first_node, second_node}
use Rattle.graph_edits.specs.declared.edits.Op.{Op}
use Rattle.graph_edits.specs.declared.edits.Op.TheVariants.{Add}
use Rattle.graph_edits.proofs.Applied.{by_step, passed_within, refusal_lower, count_fits, count_step, count_few}
use Rattle.graph_edits.proofs.overlay.Overlay.first_refused.Goals as goal

-- what the test says, of the edge map that the ops before have made
tested : (limit nodes nodes' count : ℕ) (there : Bool) (a b : ℕ) (m : EdgeMap) (op : Op) → nodes' ≡ nodes → count ≡ len m → a ≡ first_node op → b ≡ second_node op → there ≡ is_some (weight_between m a b)
    → refusal_within limit nodes' count there op ≡ None → refusal_at_within limit nodes m op ≡ None
tested limit nodes nodes' count there a b m op n e p q t is =
    (λ i. refusal_within limit (sym n i) (sym e i) (is_some (weight_between m (sym p i) (sym q i))) op) ∙ ap (λ u. refusal_within limit nodes' count u op) (sym t) ∙ is

pub edges_then-edges-requires : goal.edges_then-edges-requires
edges_then-edges-requires c =
    let op = get_or c.args.ops.now c.loop-i.i (Add 0 0 0) in
    let m = edges_by c.args.self.now.edges (take c.loop-i.i c.args.ops.now) in
    let within = tested c.args.limit c.args.self.now.nodes c.nodes-nodes.result c.loop-i.edges c.is_some-there.result c.ends-a.result.0 c.ends-a.result.1 m op
    c.nodes-nodes.ensures c.loop-i.invariant.counted (ap (λ p. p.0) c.ends-a.ensures) (ap (λ p. p.1) c.ends-a.ensures) (c.is_some-there.ensures ∙ ap is_some c.weight_after.ensures) (sym c.refusal.ensures ∙ c.in_default.is) in
    let accepted = refusal_lower c.args.limit c.args.self.now.nodes (len m) (is_some (weight_between m (first_node op) (second_node op))) op c.requires within in
    subst (λ n. CountFits n op) (sym c.loop-i.invariant.counted) (count_fits c.args.self.now.nodes m op accepted)

pub loop-i-preserved : goal.loop-i-preserved
loop-i-preserved c =
    let op = get_or c.args.ops.now c.loop-i.i (Add 0 0 0) in
    let m = edges_by c.args.self.now.edges (take c.loop-i.i c.args.ops.now) in
    let within = tested c.args.limit c.args.self.now.nodes c.nodes-nodes.result c.loop-i.edges c.is_some-there.result c.ends-a.result.0 c.ends-a.result.1 m op
    c.nodes-nodes.ensures c.loop-i.invariant.counted (ap (λ p. p.0) c.ends-a.ensures) (ap (λ p. p.1) c.ends-a.ensures) (c.is_some-there.ensures ∙ ap is_some c.weight_after.ensures) (sym c.refusal.ensures ∙ c.in_default.is) in
    let accepted = refusal_lower c.args.limit c.args.self.now.nodes (len m) (is_some (weight_between m (first_node op) (second_node op))) op c.requires within in
    let next = by_step c.args.self.now.edges c.args.ops.now c.loop-i.i (Add 0 0 0) c.loop-i-test.true in
    record {
      rest = c.loop-i.invariant.rest ∙ passed_within c.args.limit c.args.self.now.nodes m c.args.ops.now c.loop-i.i (Add 0 0 0) c.loop-i-test.true within
          ∙ ap (λ e. edges_after_within c.args.limit c.args.self.now.nodes e (c.loop-i.i + 1) (drop (c.loop-i.i + 1) c.args.ops.now)) (sym next);
      counted = c.edges_then-edges.ensures ∙ ap (λ n. count_after n op) c.loop-i.invariant.counted ∙ sym (count_step c.args.self.now.nodes m op accepted) ∙ ap len (sym next);
      few = subst (λ n. n ≤ most_edges) (sym c.edges_then-edges.ensures) (count_few c.loop-i.edges op (subst (λ n. CountFits n op) (sym c.loop-i.invariant.counted) (count_fits c.args.self.now.nodes m op accepted)) c.loop-i.invariant.few);
    }

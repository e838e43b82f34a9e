use Rattle.std.proofs.Common.{◌≡◌, ◌<◌, sym, ap, ◌∙◌, subst, length, arith, set}
use Rattle.std.proofs.lemmas.List.{length-map, length-set}
use Rattle.std.proofs.lemmas.List.Elements.{All-pop}
use Rattle.std.specs.List.{All}
use Rattle.std.specs.Option.{IfSome}
use Rattle.graph_edits.specs.Rows.{lists, network_of, AreRows}
use Rattle.graph_edits.specs.Placed.{placed, rows_of}
use Rattle.graph_edits.proofs.Placing.{placed_last}
use Rattle.graph_edits.proofs.Preparing.{rows_before, lists_row}
use Rattle.graph_edits.proofs.graph.Graph.install.Goals as goal

pub loop-node-init : goal.loop-node-init
loop-node-init c =
    let own = c.self.inside.rows.items in
    let es = c.prepared.inside.rows.items in
    let same : network_of (lists own) ≡ c.prepared.inside.before.value = c.self.view_is ∙ sym c.requires.of_this ∙ sym (ap (λ p. p.before) c.prepared.view_is) in
    let rows : rows_of c.prepared.inside.before.value ≡ lists own = rows_before (lists own) c.self.inside.edges c.prepared.inside.before.value c.self.invariant same in
    record {
      within = subst (λ n. All (λ e. e.0 < n) es) (sym (ap (λ g. g.nodes) same) ∙ length-map own (λ row. row.items)) c.prepared.invariant.slots.within;
      kept = subst (λ l. AreRows (placed l es) c.prepared.inside.edges) rows c.prepared.invariant.rows;
      rest = ap (λ l. network_of (placed l es)) (sym rows) ∙ ap (λ p. p.after) c.prepared.view_is;
    }

pub index_mut-requires : goal.index_mut-requires
index_mut-requires c =
    let last = All-pop (λ e. e.0 < length c.loop-node.self-inside.rows.items) c.loop-node.rows.items c.pop.new.self.items c.pop.result c.pop.ensures.items c.loop-node.invariant.within in
    let lt : c.in-Some.node < length c.loop-node.self-inside.rows.items = subst (λ o. IfSome o (λ e. e.0 < length c.loop-node.self-inside.rows.items)) c.in-Some.is last.1 in
    omega (arith, lt)

pub loop-node-preserved : goal.loop-node-preserved
loop-node-preserved c =
    let own = c.loop-node.self-inside.rows.items in
    let last = All-pop (λ e. e.0 < length own) c.loop-node.rows.items c.pop.new.self.items c.pop.result c.pop.ensures.items c.loop-node.invariant.within in
    let popped : placed (lists own) c.loop-node.rows.items ≡ placed (lists (set own c.in-Some.node c.in-Some.row)) c.pop.new.self.items =
    ap (placed (lists own)) c.in-Some.ensures.items
    ∙ placed_last (lists own) c.pop.new.self.items (c.in-Some.node, c.in-Some.row)
    ∙ ap (λ l. placed l c.pop.new.self.items) (sym (lists_row own c.in-Some.node c.in-Some.row)) in
    record {
      within = subst (λ n. All (λ e. e.0 < n) c.pop.new.self.items) (sym (length-set own c.in-Some.node c.in-Some.row)) last.0;
      kept = subst (λ l. AreRows l c.prepared.inside.edges) popped c.loop-node.invariant.kept;
      rest = ap network_of (sym popped) ∙ c.loop-node.invariant.rest;
    }

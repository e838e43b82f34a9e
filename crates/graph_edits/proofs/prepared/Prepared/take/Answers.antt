use Rattle.std.proofs.Common.{◌≡◌, sym, ap, ◌∙◌, subst, Ok}
use Rattle.std.specs.Prelude.{IsOk}
use Rattle.std.proofs.lemmas.List.{length-map}
use Rattle.graph_edits.specs.Rows.{lists, network_of, AreRows}
use Rattle.graph_edits.specs.Placed.{placed, AreSlots}
use Rattle.graph_edits.specs.Changes.{after}
use Rattle.graph_edits.proofs.Preparing.{rows_before, accepted_change, after_change}
use Rattle.graph_edits.proofs.prepared.Prepared.take.Goals as goal

pub rewrite_all-requires-clause-rows : goal.rewrite_all-requires-clause-rows
rewrite_all-requires-clause-rows c =
    let base = c.graph.inside.rows.items in
    let same : network_of (lists base) ≡ c.self.inside.before.value = c.graph.view_is ∙ sym c.requires.of_this ∙ sym (ap (λ p. p.before) c.self.view_is) in
    let own = rows_before (lists base) c.graph.inside.edges c.self.inside.before.value c.graph.invariant same in
    rw c.deref.ensures.value (subst (λ l. AreRows (placed l c.self.inside.rows.items) c.self.inside.edges) own c.self.invariant.rows)

pub rewrite_all-requires-clause-accepted : goal.rewrite_all-requires-clause-accepted
rewrite_all-requires-clause-accepted c =
    let base = c.graph.inside.rows.items in
    let es = c.self.inside.rows.items in
    let same : network_of (lists base) ≡ c.self.inside.before.value = c.graph.view_is ∙ sym c.requires.of_this ∙ sym (ap (λ p. p.before) c.self.view_is) in
    let own = rows_before (lists base) c.graph.inside.edges c.self.inside.before.value c.graph.invariant same in
    let now : c.args.self.after ≡ network_of (placed (lists base) es) = sym (ap (λ p. p.after) c.self.view_is) ∙ ap (λ l. network_of (placed l es)) own in
    rw (c.deref.ensures.value, c.ops.ensures.ops) (accepted_change base es c.args.change.now (subst (λ g. IsOk (after g c.args.change.now)) now c.requires.accepted))

pub invariant_of-result : goal.invariant_of-result
invariant_of-result c =
    let base = c.graph.inside.rows.items in
    let same : network_of (lists base) ≡ c.self.inside.before.value = c.graph.view_is ∙ sym c.requires.of_this ∙ sym (ap (λ p. p.before) c.self.view_is) in
    let own = rows_before (lists base) c.graph.inside.edges c.self.inside.before.value c.graph.invariant same in
    record {
      slots = subst (λ n. AreSlots n c.rewrite_all.new.rows.items) (sym (length-map base (λ row. row.items)) ∙ ap (λ g. g.nodes) same) (rw c.deref.ensures.value at c.in_ok-rewrite_all.ensures.slots);
      rows = subst (λ l. AreRows (placed l c.rewrite_all.new.rows.items) c.rewrite_all.new.edges) (sym own) (rw c.deref.ensures.value at c.in_ok-rewrite_all.ensures.rows);
    }

pub returns-clause-after : goal.returns-clause-after
returns-clause-after c =
    let base = c.graph.inside.rows.items in
    let es = c.self.inside.rows.items in
    let same : network_of (lists base) ≡ c.self.inside.before.value = c.graph.view_is ∙ sym c.requires.of_this ∙ sym (ap (λ p. p.before) c.self.view_is) in
    let own = rows_before (lists base) c.graph.inside.edges c.self.inside.before.value c.graph.invariant same in
    let now : c.args.self.after ≡ network_of (placed (lists base) es) = sym (ap (λ p. p.after) c.self.view_is) ∙ ap (λ l. network_of (placed l es)) own in
    ap (λ g. after g c.args.change.now) now
    ∙ after_change base es c.rewrite_all.new.rows.items c.args.change.now (rw (c.deref.ensures.value, c.ops.ensures.ops) at c.in_ok-rewrite_all.ensures.edges)
    ∙ ap (λ l. Ok (network_of (placed l c.rewrite_all.new.rows.items))) (sym own)

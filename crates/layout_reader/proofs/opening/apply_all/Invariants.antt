use Rattle.std.proofs.Common.{◌≡◌, ◌↔◌, drop}
use Rattle.graph_edits.specs.Changes.{fold_within}
use Rattle.layout_reader.specs.State.{changes_of}
use Rattle.layout_reader.proofs.opening.apply_all.Given as goal

abbrev pub invariant-loop-entry : goal.invariant-loop-entry
invariant-loop-entry g l =
    let form = g.L.Layout.form in
    record {
      graph : fold_within form.sizes.most_edges l.fn.graph (changes_of form l.entries) ≡ fold_within form.sizes.most_edges l.graph (changes_of form (drop l.entry-index l.entries));
      tickets : form.tickets_after l.fn.tickets l.entries ≡ form.tickets_after l.tickets (drop l.entry-index l.entries);
      in_turn : form.AreInTurn l.fn.tickets l.entries ↔ form.AreInTurn l.tickets (drop l.entry-index l.entries);
    }

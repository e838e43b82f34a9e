use Rattle.std.proofs.Common.{◌≡◌, drop}
use Rattle.graph_edits.specs.Changes.{fold}
use Rattle.layout_2.specs.State.{changes_of}
use Rattle.checkpoint.proofs.store.prepare_all.Given as goal

abbrev pub invariant-loop-request : goal.invariant-loop-request
invariant-loop-request l = record {
  before : l.prepared.before ≡ l.graph;
  rest : fold l.graph (changes_of l.requests) ≡ fold l.prepared.after (changes_of (drop l.request-index l.requests));
}

use Rattle.std.proofs.Common.{◌≡◌, drop}
use Rattle.graph_edits.specs.Changes.{fold}
use Rattle.graph_edits.proofs.graph.Graph.prepare.Given as goal

abbrev pub invariant-loop-change : goal.invariant-loop-change
invariant-loop-change l = record {
  before : l.prepared.before ≡ l.self;
  rest : fold l.self l.changes ≡ fold l.prepared.after (drop l.change-index l.changes);
}

use Rattle.std.proofs.Common.{sym, ◌∙◌}
use Rattle.graph_edits.proofs.Preparing.{accepted_next, rest_next, all_made}
use Rattle.graph_edits.proofs.graph.Graph.prepare.Goals as goal

pub take-requires-clause-accepted : goal.take-requires-clause-accepted
take-requires-clause-accepted c =
    accepted_next c.args.self.now c.loop-change.prepared.after c.args.changes.now c.loop-change.change-index c.change-item.result c.loop-change-test.true c.change-item.is c.loop-change.invariant.rest c.requires.accepted

pub loop-change-preserved : goal.loop-change-preserved
loop-change-preserved c = record {
  before = c.in_ok-prepared.ensures.before ∙ c.loop-change.invariant.before;
  rest = rest_next c.args.self.now c.loop-change.prepared.after c.args.changes.now c.loop-change.change-index c.change-item.result c.loop-change-test.true c.change-item.is c.loop-change.invariant.rest c.in_ok-prepared.prepared.after c.in_ok-prepared.ensures.after;
}

pub returns-clause-after : goal.returns-clause-after
returns-clause-after c = sym (all_made c.args.self.now c.loop-change.prepared.after c.args.changes.now c.loop-change.change-index c.loop-change-test.false c.loop-change.invariant.rest)

use Rattle.std.proofs.Common.{rules, ◌∙◌}
use Rattle.group_commit.proofs.TurnLemmas.{step_own, step_other}
use Rattle.group_commit.proofs.turns.last_ticket.Goals as goal
use Rattle.group_commit.proofs.turns.last_ticket.Goals.{then-request-session, else-request-session}

pub loop-request-preserved : goal.loop-request-preserved
loop-request-preserved c = elim c.if-request-session.branch [
  | then-request-session w ↦ step_own c.args.starts.now c.args.requests.now c.loop-request.request-index c.request-item.result c.args.session c.if-request-session.last (search rules) c.requires.in_turn c.loop-request-test.true c.request-item.is w.if-request-session.true w.last-is
  | else-request-session w ↦ step_other c.args.starts.now c.args.requests.now c.loop-request.request-index c.request-item.result c.args.session c.if-request-session.last c.loop-request-test.true c.request-item.is w.if-request-session.false (w.last-is ∙ c.loop-request.invariant)
]

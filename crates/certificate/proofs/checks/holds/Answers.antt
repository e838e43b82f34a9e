use Rattle.certificate.proofs.Words.{arith, iff_false, rule_of, refused, accepted}
use Rattle.certificate.proofs.Rules.{rule}
use Rattle.certificate.proofs.checks.holds.Goals as goal

pub returns-then-not-holds_at : goal.returns-then-not-holds_at
returns-then-not-holds_at c = refused (λ h. iff_false c.holds_at.ensures c.if-not-holds_at.true
    ((rule c.args.graph.now c.args.scheme.now c.nodes-x-end.ensures.sound c.requires.framed (rule_of c.args.fault) c.requires.before).1 h c.loop-x.x (omega (arith, c.loop-x-test.true, c.nodes-x-end.ensures.nodes))))

pub returns : goal.returns
returns c = accepted ((rule c.args.graph.now c.args.scheme.now c.nodes-x-end.ensures.sound c.requires.framed (rule_of c.args.fault) c.requires.before).0
    (λ x l. c.loop-x.invariant x (omega (arith, l, c.loop-x-test.false, c.nodes-x-end.ensures.nodes))))

use Rattle.certificate.proofs.Words.{arith, iff_false, checked_serves, rule_of}
use Rattle.certificate.specs.declared.fault.Fault.TheVariants.{Shape}
use Rattle.certificate.proofs.FirstRules.{frame_from}
use Rattle.certificate.proofs.Rules.{all_eight, exact_fault, exact_ok, to_next, to_none}
use Rattle.certificate.proofs.checks.answer.Goals as goal

pub returns-then-is_sound-clause-exact : goal.returns-then-is_sound-clause-exact
returns-then-is_sound-clause-exact c = exact_ok c.args.graph.now c.args.scheme.now (c.requires c.if-is_sound.true)

pub returns-then-is_sound-clause-serves : goal.returns-then-is_sound-clause-serves
returns-then-is_sound-clause-serves c = checked_serves c.args.graph.now c.nodes-sound.ensures.sound c.args.scheme.now (c.requires c.if-is_sound.true)

pub returns-then-not-is_framed-clause-fault : goal.returns-then-not-is_framed-clause-fault
returns-then-not-is_framed-clause-fault c = (λ h. iff_false c.is_framed.ensures.framed c.if-not-is_framed.true (frame_from c.args.graph.now c.args.scheme.now h), λ j l. to_none c.args.graph.now c.args.scheme.now j (omega (arith, l)))

pub returns-then-not-is_framed-clause-exact : goal.returns-then-not-is_framed-clause-exact
returns-then-not-is_framed-clause-exact c = exact_fault c.args.graph.now c.args.scheme.now Shape (returns-then-not-is_framed-clause-fault c)

pub holds-requires-clause-before : goal.holds-requires-clause-before
holds-requires-clause-before c j l = (let e = c.fault_at-fault.ensures c.loop-i-test.true in c.loop-i.invariant j (omega (arith, l, e)))

pub loop-i-init : goal.loop-i-init
loop-i-init c = to_none c.args.graph.now c.args.scheme.now

pub returns-then-not-holds-clause-fault : goal.returns-then-not-holds-clause-fault
returns-then-not-holds-clause-fault c =
    (λ h. iff_false c.holds.ensures c.if-not-holds.true h, λ j l. (let e = c.fault_at-fault.ensures c.loop-i-test.true in c.loop-i.invariant j (omega (arith, l, e))))

pub returns-then-not-holds-clause-exact : goal.returns-then-not-holds-clause-exact
returns-then-not-holds-clause-exact c = exact_fault c.args.graph.now c.args.scheme.now c.fault_at-fault.result (returns-then-not-holds-clause-fault c)

pub loop-i-preserved : goal.loop-i-preserved
loop-i-preserved c = to_next c.args.graph.now c.args.scheme.now c.loop-i.i (rule_of c.fault_at-fault.result) (c.fault_at-fault.ensures c.loop-i-test.true) c.loop-i.invariant (c.holds.ensures.0 c.if-not-holds.false)

pub returns-clause-ok : goal.returns-clause-ok
returns-clause-ok c = all_eight c.args.graph.now c.args.scheme.now (λ j l. c.loop-i.invariant j (omega (arith, l, c.loop-i-test.false)))

pub returns-clause-exact : goal.returns-clause-exact
returns-clause-exact c = exact_ok c.args.graph.now c.args.scheme.now (returns-clause-ok c)

pub returns-clause-serves : goal.returns-clause-serves
returns-clause-serves c = checked_serves c.args.graph.now c.nodes-sound.ensures.sound c.args.scheme.now (returns-clause-ok c)

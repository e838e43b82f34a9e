use Rattle.std.proofs.Common.{arith, sym, ◌∙◌, refl}
use Rattle.router_table.specs.Refusals.{behind_members}
use Rattle.router_table.proofs.Members.{one_more, all_passed}
use Rattle.router_table.proofs.form.past_members.Goals as goal

pub returns-in_default-clause-rest : goal.returns-in_default-clause-rest
returns-in_default-clause-rest c = one_more c.args.count c.loop.counter c.loop.rest.now _ c.loop.invariant.same c.loop-test.true ∙ rw c.in_default.ensures.rest refl

pub returns-in_default-past-clause-rest : goal.returns-in_default-past-clause-rest
returns-in_default-past-clause-rest c = one_more c.args.count c.loop.counter c.loop.rest.now _ c.loop.invariant.same c.loop-test.true ∙ rw (c.in-Some.ensures.rest, c.in_default-past.ensures.rest) refl

pub loop-preserved : goal.loop-preserved
loop-preserved c = record {
  same = sym (one_more c.args.count c.loop.counter c.loop.rest.now _ c.loop.invariant.same c.loop-test.true ∙ rw (c.in-Some.ensures.rest, c.in-Some-past.ensures.rest) refl);
  shorter = omega (arith, c.in-Some.ensures.shorter, c.in-Some-past.ensures.shorter, c.loop.invariant.shorter);
}

pub returns-clause-rest : goal.returns-clause-rest
returns-clause-rest c = all_passed c.args.count c.loop.counter c.loop.rest.now (behind_members c.args.count c.args.bytes.now) c.loop.invariant.same c.loop-test.false

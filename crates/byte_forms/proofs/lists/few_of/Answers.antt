use Rattle.std.proofs.Common.{arith}
use Rattle.byte_forms.specs.Reading.{items_at}
use Rattle.byte_forms.proofs.Loops.{goes_on, ends, is_done}
use Rattle.byte_forms.proofs.lists.few_of.Goals as goal

pub returns-in_default-clause-items : goal.returns-in_default-clause-items
returns-in_default-clause-items g c =
    ends g.F.Form.form.at c.loop.items.items c.args.count c.loop.counter c.loop.rest.now (items_at g.F.Form.form.at c.args.count c.args.bytes.now) c.loop.invariant.same c.loop-test.true c.in_default.ensures

pub loop-preserved : goal.loop-preserved
loop-preserved g c = record {
  same = rw c.push.ensures.items (goes_on g.F.Form.form.at c.loop.items.items c.args.count c.loop.counter c.loop.rest.now (items_at g.F.Form.form.at c.args.count c.args.bytes.now) c.loop.invariant.same
      c.in-Some.item c.in-Some.after.now c.loop-test.true c.in-Some.ensures);
  many = omega (arith, c.push.ensures.len, c.loop.invariant.many);
}

pub returns-clause-items : goal.returns-clause-items
returns-clause-items g c = is_done g.F.Form.form.at c.loop.items.items c.args.count c.loop.counter c.loop.rest.now (items_at g.F.Form.form.at c.args.count c.args.bytes.now) c.loop.invariant.same c.loop-test.false

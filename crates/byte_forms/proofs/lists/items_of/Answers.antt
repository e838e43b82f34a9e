use Rattle.byte_forms.specs.Reading.{items_at}
use Rattle.byte_forms.proofs.Loops.{goes_on, ends, is_done}
use Rattle.byte_forms.proofs.lists.items_of.Goals as goal

pub returns-in_default : goal.returns-in_default
returns-in_default g c =
    ends g.F.Form.form.at c.loop.items.items c.args.count c.loop.counter c.loop.rest.now (items_at g.F.Form.form.at c.args.count c.args.bytes.now) c.loop.invariant c.loop-test.true c.in_default.ensures

pub loop-preserved : goal.loop-preserved
loop-preserved g c =
    rw c.in_ok-push.ensures.items (goes_on g.F.Form.form.at c.loop.items.items c.args.count c.loop.counter c.loop.rest.now (items_at g.F.Form.form.at c.args.count c.args.bytes.now) c.loop.invariant
    c.in-Some.item c.in-Some.after.now c.loop-test.true c.in-Some.ensures)

pub returns : goal.returns
returns g c = is_done g.F.Form.form.at c.loop.items.items c.args.count c.loop.counter c.loop.rest.now (items_at g.F.Form.form.at c.args.count c.args.bytes.now) c.loop.invariant c.loop-test.false

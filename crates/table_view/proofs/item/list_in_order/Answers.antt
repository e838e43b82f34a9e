use Rattle.std.proofs.Common.{arith}
use Rattle.table_view.proofs.Lists.{a_list, at_first, ends, goes_on, is_done, no_count, no_list, stops}
use Rattle.table_view.proofs.item.list_in_order.Goals as goal

pub returns-in_default : goal.returns-in_default
returns-in_default g c = no_count g.F.Form.form.at g.F.Item.key (g.F.Item.IsGood c.args.ports) c.args.limit c.args.bytes.now c.in_default.ensures

pub loop-init : goal.loop-init
loop-init g c = record { reading = at_first g.F.Form.form.at g.F.Item.key (g.F.Item.IsGood c.args.ports) c.args.limit c.in-Some.count c.in-Some.items.now; fits = omega arith }

pub returns-in_default-take : goal.returns-in_default-take
returns-in_default-take g c =
    no_list g.F.Form.form.at g.F.Item.key (g.F.Item.IsGood c.args.ports) c.args.limit c.args.bytes.now c.in-Some.count c.in-Some.items.now c.in-Some.ensures
    (ends g.F.Form.form.at g.F.Item.key (g.F.Item.IsGood c.args.ports) c.args.limit c.in-Some.count c.loop.counter c.loop.least c.in-Some.items.now c.loop.rest.now c.loop.invariant.reading c.loop-test.true c.in_default-take.ensures)

pub returns-then-not-may_come : goal.returns-then-not-may_come
returns-then-not-may_come g c =
    no_list g.F.Form.form.at g.F.Item.key (g.F.Item.IsGood c.args.ports) c.args.limit c.args.bytes.now c.in-Some.count c.in-Some.items.now c.in-Some.ensures
    (stops g.F.Form.form.at g.F.Item.key (g.F.Item.IsGood c.args.ports) c.args.limit c.in-Some.count c.loop.counter c.loop.least c.in-Some.items.now c.loop.rest.now c.loop.invariant.reading c.in-Some-take.item c.in-Some-take.after.now c.loop-test.true c.in-Some-take.ensures
    (λ may. (let yes = c.may_come.ensures.1 may in let no = c.if-not-may_come.true in cc)))

pub loop-preserved : goal.loop-preserved
loop-preserved g c =
    let key = c.key-key.ensures in
    record {
      reading = rw key (goes_on g.F.Form.form.at g.F.Item.key (g.F.Item.IsGood c.args.ports) c.args.limit c.in-Some.count c.loop.counter c.loop.least c.in-Some.items.now c.loop.rest.now c.loop.invariant.reading c.in-Some-take.item c.in-Some-take.after.now c.loop-test.true c.in-Some-take.ensures (c.may_come.ensures.0 c.if-not-may_come.false));
      fits = omega (arith, key);
    }

pub returns : goal.returns
returns g c =
    a_list g.F.Form.form.at g.F.Item.key (g.F.Item.IsGood c.args.ports) c.args.limit c.args.bytes.now c.in-Some.count c.in-Some.items.now c.in-Some.ensures c.loop.rest.now
    (is_done g.F.Form.form.at g.F.Item.key (g.F.Item.IsGood c.args.ports) c.args.limit c.in-Some.count c.loop.counter c.loop.least c.in-Some.items.now c.loop.rest.now c.loop.invariant.reading c.loop-test.false)

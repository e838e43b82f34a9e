use Rattle.std.proofs.Common.{◌≡◌, ap, arith, subst, drop, sym, get_or}
use Rattle.std.proofs.lemmas.List.{get_or_default}
use Rattle.route_tree.specs.Rose.{of_list, count}
use Rattle.route_tree.specs.Order.{HaveEachNodeOnce}
use Rattle.route_tree.specs.Slots.{Waits}
use Rattle.route_tree.proofs.Waiting.{taken, hanging_once, once_drop, no_member, closed_is, first_is}
use Rattle.route_tree.proofs.Counting.{hanging_fits}
use Rattle.route_tree.proofs.growth.grown.Goals as goal

pub close-requires-clause-once : goal.close-requires-clause-once
close-requires-clause-once g c =
    let one : c.loop-left.left ≡ 1 = omega (arith, c.loop-left.invariant.0) in
    let w = subst (λ n. Waits c.args.members.now n c.loop-left.slots.items) one c.loop-left.invariant.1.1 in
    let e = taken c.args.members.now 0 c.loop-left.slots.items c.take_last-children.result no_member w c.take_last-children.ensures.value in
    subst HaveEachNodeOnce (sym e) (hanging_once _ (drop 1 c.args.members.now) (once_drop 1 c.args.members.now c.requires.members.once))

pub close-requires-clause-few : goal.close-requires-clause-few
close-requires-clause-few g c =
    let one : c.loop-left.left ≡ 1 = omega (arith, c.loop-left.invariant.0) in
    let w = subst (λ n. Waits c.args.members.now n c.loop-left.slots.items) one c.loop-left.invariant.1.1 in
    let e = ap (λ z. count (of_list z)) (taken c.args.members.now 0 c.loop-left.slots.items c.take_last-children.result no_member w c.take_last-children.ensures.value) in
    let f = hanging_fits c.args.members.now 0 1 no_member c.requires.members.once (omega arith) in
    omega (arith, e, f, c.requires.members.few)

pub returns : goal.returns
returns g c = λ d.
    let one : c.loop-left.left ≡ 1 = omega (arith, c.loop-left.invariant.0) in
    let w = subst (λ n. Waits c.args.members.now n c.loop-left.slots.items) one c.loop-left.invariant.1.1 in
    let m = get_or c.args.members.now 0 no_member in
    let is = get_or_default c.args.members.now 0 no_member (get_or c.args.members.now 0 no_member) c.requires.members.some in
    first_is c.args.members.now m c.close.result d c.requires.members.some is
    (closed_is c.args.members.now 0 c.loop-left.slots.items c.take_last-children.result m c.close.result c.requires.members.once w c.take_last-children.ensures.value is c.close.ensures)

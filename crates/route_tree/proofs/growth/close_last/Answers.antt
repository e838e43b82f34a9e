use Rattle.std.proofs.Common.{◌+◌, ◌∙◌, ap, arith, length, get_or, drop, subst, sym}
use Rattle.std.proofs.lemmas.List.{get_or_default}
use Rattle.route_tree.specs.Rose.{of_list, count}
use Rattle.route_tree.specs.Order.{HaveEachNodeOnce}
use Rattle.route_tree.proofs.Waiting.{taken, hanging_once, once_drop, no_member, closed_is, waits_less, removed_length}
use Rattle.route_tree.proofs.Counting.{hanging_fits}
use Rattle.route_tree.proofs.growth.close_last.Goals as goal

pub close-twig-requires-clause-once : goal.close-twig-requires-clause-once
close-twig-requires-clause-once g c =
    let e = taken c.args.members.now c.args.at c.args.slots.now.items c.take_last-children.result no_member c.requires.waits c.take_last-children.ensures.value in
    subst HaveEachNodeOnce (sym e) (hanging_once _ (drop (c.args.at + 1) c.args.members.now) (once_drop (c.args.at + 1) c.args.members.now c.requires.members.once))

pub close-twig-requires-clause-few : goal.close-twig-requires-clause-few
close-twig-requires-clause-few g c =
    let e = ap (λ z. count (of_list z)) (taken c.args.members.now c.args.at c.args.slots.now.items c.take_last-children.result no_member c.requires.waits c.take_last-children.ensures.value) in
    let f = hanging_fits c.args.members.now c.args.at (c.args.at + 1) no_member c.requires.members.once (omega arith) in
    omega (arith, e, f, c.requires.members.few)

pub hang-requires : goal.hang-requires
hang-requires g c =
    let l = ap length c.take_last-children.ensures.items ∙ removed_length c.args.slots.now.items c.args.at c.requires.waits.count in
    let p = (c.parent_place-place.ensures no_member).before in
    omega (arith, l, p)

pub returns : goal.returns
returns g c =
    let m = get_or c.args.members.now c.args.at no_member in
    let is = get_or_default c.args.members.now c.args.at no_member (get_or c.args.members.now c.args.at no_member) c.requires.there in
    waits_less c.args.members.now c.args.at c.parent_place-place.result c.args.slots.now.items c.take_last-children.new.slots.items c.hang.new.slots.items m c.close-twig.result c.requires.there c.requires.members.once c.requires.waits is
    (c.parent_place-place.ensures no_member) c.take_last-children.ensures.items
    (closed_is c.args.members.now c.args.at c.args.slots.now.items c.take_last-children.result m c.close-twig.result c.requires.members.once c.requires.waits c.take_last-children.ensures.value is c.close-twig.ensures)
    c.in_ok-hang.ensures

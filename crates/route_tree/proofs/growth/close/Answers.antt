use Rattle.std.proofs.Common.{ap, arith}
use Rattle.route_tree.specs.Rose.{of_list, count}
use Rattle.route_tree.specs.Order.{ascending}
use Rattle.route_tree.proofs.Counting.{count_front, count_ascending}
use Rattle.route_tree.proofs.growth.close.Goals as goal

pub new-requires : goal.new-requires
new-requires g c =
    let e = ap (λ z. count (of_list z)) c.in_order.ensures in
    omega (arith, e, count_front (ascending c.args.children.items), count_ascending c.args.children.items, c.requires.few)

use Rattle.std.proofs.Common.{IsPermutation, ap, sym, subst, ◌∙◌}
use Rattle.std.proofs.lemmas.List.Sorted.{IsPermutation-trans}
use Rattle.route_tree.specs.Front.{heavy_to_front, IsInOrder}
use Rattle.route_tree.proofs.Ascending.{sorted_is}
use Rattle.route_tree.proofs.Orders.{climbs_from, in_order_front, permutes_front}
use Rattle.route_tree.proofs.heavy.heavy_first.Goals as goal

pub returns-clause-same : goal.returns-clause-same
returns-clause-same g c =
    let sorted = c.sort_by_node.new.trees in
    subst (IsPermutation c.args.children.now) (sym c.front.ensures) (IsPermutation-trans c.args.children.now sorted (heavy_to_front sorted) c.sort_by_node.ensures.same (permutes_front sorted))

pub returns-clause-order : goal.returns-clause-order
returns-clause-order g c =
    let sorted = c.sort_by_node.new.trees in
    subst IsInOrder (sym c.front.ensures) (in_order_front sorted (climbs_from sorted c.sort_by_node.ensures.ascending))

pub returns-clause-list : goal.returns-clause-list
returns-clause-list g c = λ once.
    c.front.ensures ∙ ap heavy_to_front (sorted_is c.args.children.now c.sort_by_node.new.trees once c.sort_by_node.ensures.same c.sort_by_node.ensures.ascending)

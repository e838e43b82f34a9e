use Rattle.std.proofs.Common.{◌∙◌, sym}
use Rattle.route_tree.proofs.Fronted.{in_order_is}
use Rattle.route_tree.proofs.route_tree.RouteTree.heavy_first.Goals as goal

pub returns-clause-list : goal.returns-clause-list
returns-clause-list g c = λ once. c.heavy_first.ensures.list once ∙ sym (in_order_is c.args.children.now)

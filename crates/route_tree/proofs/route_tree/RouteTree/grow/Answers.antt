use Rattle.std.proofs.Common.{IsPermutation, sym, subst, ap, ◌∙◌}
use Rattle.route_tree.specs.Rose.{tree_size}
use Rattle.route_tree.specs.Members.{members_of}
use Rattle.route_tree.specs.Shape.{IsRouteTree}
use Rattle.route_tree.proofs.EachOnce.{each_once, as_many}
use Rattle.route_tree.proofs.Shapes.{shape}
use Rattle.route_tree.proofs.route_tree.RouteTree.grow.Goals as goal

pub invariant_of-result : goal.invariant_of-result
invariant_of-result g c =
    let t = c.in_ok-grown.grown in
    subst IsRouteTree (sym (c.in_ok-grown.ensures t)) (shape c.args.members.now t c.requires.members)

pub returns-clause-each_once : goal.returns-clause-each_once
returns-clause-each_once g c =
    let t = c.in_ok-grown.grown in
    subst (λ z. IsPermutation c.args.members.now (members_of z)) (sym (c.in_ok-grown.ensures t)) (each_once c.args.members.now t c.requires.members)

pub returns-clause-size : goal.returns-clause-size
returns-clause-size g c =
    let t = c.in_ok-grown.grown in
    ap tree_size (c.in_ok-grown.ensures t) ∙ as_many c.args.members.now t c.requires.members

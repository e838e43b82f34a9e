use Rattle.std.proofs.Common.{◌≡◌, ◌+◌, drop}
use Rattle.route_tree.specs.Rose.{count, of_list}
use Rattle.route_tree.proofs.twig.Twig.new.Given as goal

abbrev pub invariant-loop-child : goal.invariant-loop-child
invariant-loop-child g l = l.size + count (of_list (drop l.child-index l.child-items)) ≡ 1 + count (of_list l.child-items)

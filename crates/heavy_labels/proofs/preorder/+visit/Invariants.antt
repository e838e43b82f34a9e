use Rattle.std.proofs.Common.{◌++◌, map}
use Rattle.route_tree.specs.Rose.{tree_size}
use Rattle.heavy_labels.specs.Numbered.{seen, tree_briefs}
use Rattle.heavy_labels.proofs.Left.{Left}
use Rattle.heavy_labels.proofs.preorder.+visit.Given as goal

abbrev pub decreases-visit : goal.decreases-visit
decreases-visit g l = tree_size l.twig.now

abbrev pub invariant-loop-i : goal.invariant-loop-i
invariant-loop-i g l = Left (tree_size l.twig) l.first l.lights l.children l.i l.next (map seen l.out.items) (map seen l.fn.out.items ++ tree_briefs l.twig l.first l.lights)

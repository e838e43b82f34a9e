use Rattle.route_tree.proofs.Fronts.{IsHeavySoFar}
use Rattle.route_tree.proofs.heavy.heaviest.Given as goal

abbrev pub invariant-loop-i : goal.invariant-loop-i
invariant-loop-i g l = IsHeavySoFar l.children l.i l.best l.most

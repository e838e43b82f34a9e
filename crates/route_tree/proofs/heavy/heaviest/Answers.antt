use Rattle.std.proofs.Common.{arith}
use Rattle.route_tree.proofs.Fronts.{size_is, next_yes, next_no}
use Rattle.route_tree.proofs.heavy.heaviest.Goals as goal
use Rattle.route_tree.proofs.heavy.heaviest.Goals.{then-size-most, else-size-most}

pub loop-i-preserved : goal.loop-i-preserved
loop-i-preserved g c =
    let is = size_is c.args.children.now c.loop-i.i c.size-size.result c.index-children-i.result (omega arith) c.index-children-i.is c.size-size.ensures in
    elim c.if-size-most.branch [
      | then-size-most w ↦ rw (w.best-is, w.most-is) (next_yes c.args.children.now c.loop-i.i c.loop-i.best c.loop-i.most c.size-size.result c.loop-i.invariant (omega arith) is (omega arith))
      | else-size-most w ↦ rw (w.best-is, w.most-is) (next_no c.args.children.now c.loop-i.i c.loop-i.best c.loop-i.most c.size-size.result c.loop-i.invariant (omega arith) is (omega arith))
    ]

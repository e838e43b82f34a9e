use Rattle.certificate.proofs.Words.{arith, sym, subst, IsTrue, false, IsTreeRight}
use Rattle.certificate.proofs.Ranges.{in_all_ranges}
use Rattle.certificate.proofs.in_threads.are_all_right.Goals as goal

pub returns-then-workers-lt2 : goal.returns-then-workers-lt2
returns-then-workers-lt2 g c right x below = c.are_trees_right.ensures right x (omega arith) (omega (arith, below, c.nodes.ensures.nodes))

pub returns : goal.returns
returns g c right =
    in_all_ranges (IsTreeRight c.args.graph.now c.args.scheme.now) c.args.graph.now.nodes c.nodes-2.result c.div_ceil-size.result c.for_each_mut.new.s c.nodes-2.ensures.nodes c.div_ceil-size.ensures (c.all_right.ensures right) c.for_each_mut.auto.s
    (λ i below this. let k = (c.for_each_mut.ensures i false below).1 in k.call (subst IsTrue (sym k.left) this))

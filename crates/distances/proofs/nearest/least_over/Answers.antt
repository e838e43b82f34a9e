use Rattle.std.proofs.Common.{◌≡◌, length, arith, subst, sym}
use Rattle.distances.specs.Nearest.{near_at}
use Rattle.distances.proofs.Turns.{neighbour_below}
use Rattle.distances.proofs.NearestLandmarks.{IsLeastFirst, least_step, least_over_all}
use Rattle.distances.proofs.nearest.least_over.Goals as goal

pub bounds-of-node : goal.bounds-of-node
bounds-of-node c =
    let lt = neighbour_below c.args.graph.now c.args.settled.node c.neighbours-node-items.result.now c.loop-node.node-index c.neighbours-node-items.ensures.sound c.neighbours-node-items.ensures.list c.loop-node-test.true in
    omega (arith, c.requires.of, lt)

pub loop-node-preserved : goal.loop-node-preserved
loop-node-preserved c = rw c.the_lesser-least.ensures (least_step (near_at c.args.of.now) c.neighbours-node-items.result.now c.args.settled.distance c.loop-node.node-index c.loop-node.least c.landmark_by.result (sym c.landmark_by.ensures) c.loop-node.invariant)

pub returns : goal.returns
returns c =
    let es = c.neighbours-node-items.result.now in
    let all : c.loop-node.node-index ≡ length es = omega (arith, c.loop-node.auto, c.loop-node-test) in
    least_over_all c.args.graph.now (near_at c.args.of.now) c.args.settled.node c.args.settled.distance es c.neighbours-node-items.ensures.list c.neighbours-node-items.ensures.sound c.loop-node.least
    (subst (λ k. IsLeastFirst (near_at c.args.of.now) es c.args.settled.distance k c.loop-node.least) all c.loop-node.invariant)

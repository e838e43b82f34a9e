use Rattle.std.proofs.Common.{◌≡◌, ◌<◌, length, get_or, arith, subst, refl, ◌∙◌, length-set}
use Rattle.distances.specs.Search.{number_at, flag_at}
use Rattle.distances.specs.Nearest.{near_at, IsNearBy}
use Rattle.distances.proofs.Trees.{within_order}
use Rattle.distances.proofs.NearestLandmarks.{AreFound, nowhere, nearest_here, found_more, found_all, count_set_some}
use Rattle.distances.proofs.nearest.nearest_each.Goals as goal

pub nearest_by-requires-clause-node : goal.nearest_by-requires-clause-node
nearest_by-requires-clause-node c =
    within_order c.args.graph.now.nodes c.args.distances.now c.requires.nodes c.args.order.now c.requires.listing.listed c.loop-settled.settled-index nowhere c.loop-settled-test.true

pub index_mut-requires : goal.index_mut-requires
index_mut-requires c =
    let lt = within_order c.args.graph.now.nodes c.args.distances.now c.requires.nodes c.args.order.now c.requires.listing.listed c.loop-settled.settled-index nowhere c.loop-settled-test.true in
    omega (arith, lt, c.loop-settled.invariant.nodes, c.loop-settled.of.ok.0)

pub loop-settled-preserved : goal.loop-settled-preserved
loop-settled-preserved c =
    let i = c.loop-settled.invariant in
    let order = c.args.order.now in
    let k = c.loop-settled.settled-index in
    let within : c.loop-settled.settled-index < length c.args.order.now = c.loop-settled-test.true in
    let node : (get_or c.args.order.now c.loop-settled.settled-index nowhere).node < c.args.graph.now.nodes = within_order c.args.graph.now.nodes c.args.distances.now c.requires.nodes c.args.order.now c.requires.listing.listed k nowhere within in
    let lt : (get_or c.args.order.now c.loop-settled.settled-index nowhere).node < length c.loop-settled.of.items = omega (arith, node, i.nodes) in
    let by : IsNearBy c.args.graph.now.edges (near_at c.loop-settled.of.items) (get_or order k nowhere).node (get_or order k nowhere).distance (flag_at c.args.flags.now (get_or order k nowhere).node) c.nearest_by.result =
    subst (λ l. IsNearBy c.args.graph.now.edges (near_at l) (get_or order k nowhere).node (get_or order k nowhere).distance (flag_at c.args.flags.now (get_or order k nowhere).node) c.nearest_by.result) c.deref.ensures.value c.nearest_by.ensures in
    let here = nearest_here c.args.graph.now c.nodes.ensures.sound c.args.flags.now (number_at c.args.distances.now) c.requires.distances order c.requires.listing c.requires.ascending (near_at c.loop-settled.of.items) k within i.found
    (flag_at c.args.flags.now (get_or order k nowhere).node) c.nearest_by.result refl by in
    record {
      nodes = length-set c.loop-settled.of.items (get_or order k nowhere).node c.nearest_by.result ∙ i.nodes;
      found = found_more c.args.graph.now.edges c.args.flags.now order k c.loop-settled.of.items c.nearest_by.result lt i.found here;
      counted = let le = count_set_some c.loop-settled.of.items (get_or order k nowhere).node c.nearest_by.result lt in omega (arith, le, i.counted);
    }

pub returns-clause-nearest : goal.returns-clause-nearest
returns-clause-nearest c =
    let all : c.loop-settled.settled-index ≡ length c.args.order.now = omega (arith, c.loop-settled.auto, c.loop-settled-test) in
    found_all c.args.graph.now c.args.flags.now (number_at c.args.distances.now) c.requires.distances c.args.order.now c.requires.listing (near_at c.loop-settled.of.items)
    (subst (AreFound c.args.graph.now.edges c.args.flags.now (near_at c.loop-settled.of.items) c.args.order.now) all c.loop-settled.invariant.found)

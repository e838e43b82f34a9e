use Rattle.std.proofs.Common.{arith}
use Rattle.std.proofs.lemmas.List.Elements.{All-get_or}
use Rattle.network_load.specs.Lists.{HasEndsTo}
use Rattle.network_load.proofs.Counting.{nodes_to}
use Rattle.network_load.proofs.loading.nodes_of.Goals as goal

pub loop-edge-preserved : goal.loop-edge-preserved
loop-edge-preserved c =
    let at = nodes_to c.args.edges.now c.loop-edge.edge-index (record { line = 0; a = 0; b = 0; weight = 0 }) c.loop-edge-test.true in
    let ends = All-get_or (HasEndsTo 16383) c.args.edges.now c.loop-edge.edge-index (record { line = 0; a = 0; b = 0; weight = 0 }) c.loop-edge-test.true c.requires in
    (omega (arith, at, c.max-nodes.ensures, c.max.ensures, c.loop-edge.invariant.0), omega (arith, c.max-nodes.ensures, c.max.ensures, c.loop-edge.invariant.1, ends))

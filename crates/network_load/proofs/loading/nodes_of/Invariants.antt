use Rattle.std.proofs.Common.{◌≡◌, ◌≤◌, take}
use Rattle.graph_edits.specs.Edges.{most_nodes}
use Rattle.network_load.specs.Loads.{nodes_in}
use Rattle.network_load.proofs.loading.nodes_of.Given as goal

abbrev pub invariant-loop-edge : goal.invariant-loop-edge
invariant-loop-edge l = (l.nodes ≡ nodes_in (take l.edge-index l.edges)) × (l.nodes ≤ most_nodes)

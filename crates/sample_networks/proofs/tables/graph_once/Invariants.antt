use Rattle.std.proofs.Common.{◌≡◌, drop, map}
use Rattle.std.specs.FinMap.{empty, len}
use Rattle.graph_edits.specs.Changes.{edges_after}
use Rattle.sample_networks.specs.Tables.{added}
use Rattle.sample_networks.proofs.tables.graph_once.Given as goal

-- the whole table comes to what the rows that are left come to behind those so far
abbrev pub invariant-loop-place : goal.invariant-loop-place
invariant-loop-place l = record {
  nodes : l.graph.nodes ≡ l.nodes;
  count : len l.graph.edges ≡ l.place;
  rest : edges_after l.nodes empty 0 (map added l.edges) ≡ edges_after l.nodes l.graph.edges l.place (drop l.place (map added l.edges));
}

use Rattle.std.proofs.Common.{◌≡◌, ◌+◌, ◌*◌, ◌++◌, length}
use Rattle.std.specs.List.{flat_map, AllByRecursion}
use Rattle.std.specs.FinMap.{entries}
use Rattle.layout_reader.specs.Ascending.{last_key}
use Rattle.layout_reader.specs.EdgeTexts.{edge_text, IsEdge}
use Rattle.layout_reader.proofs.edges.read_edges.Given as goal

abbrev pub invariant-loop : goal.invariant-loop
invariant-loop l = record {
  nodes : l.graph.nodes ≡ l.nodes;
  count : length (entries l.graph.edges) ≡ l.counter;
  long : length l.rest + 8 * l.counter ≡ 8 * l.edges;
  text : flat_map edge_text (entries l.graph.edges) ++ l.rest ≡ l.bytes;
  each : AllByRecursion (λ e. IsEdge l.nodes e) (entries l.graph.edges);
  last : last_key (entries l.graph.edges) ≡ l.last;
}

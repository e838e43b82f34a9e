use Rattle.std.proofs.Common.{◌≡◌, ◌+◌, ◌*◌, length}
use Rattle.layout_reader.proofs.edges.degrees_of.Given as goal

abbrev pub invariant-loop : goal.invariant-loop
invariant-loop l = record {
  long : length l.rest + 8 * l.counter ≡ 8 * l.edges;
  nodes : length l.degrees.items ≡ l.nodes;
}

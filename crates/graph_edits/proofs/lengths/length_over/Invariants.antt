use Rattle.std.proofs.Common.{◌≡◌, ◌≤◌, ◌+◌, ◌-◌, ◌^◌, min, drop}
use Rattle.graph_edits.specs.Walks.{walk_length}
use Rattle.graph_edits.proofs.lengths.length_over.Given as goal

abbrev pub invariant-loop-next : goal.invariant-loop-next
invariant-loop-next l = record {
  sum : min (l.length + walk_length l.graph.edges l.at (drop l.next-index l.rest)) (2 ^ 64 - 1) ≡ min (walk_length l.graph.edges l.initial.at l.rest) (2 ^ 64 - 1);
  fits : l.length ≤ 2 ^ 64 - 1;
}

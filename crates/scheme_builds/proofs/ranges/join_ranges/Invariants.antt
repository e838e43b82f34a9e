use Rattle.std.proofs.Common.{◌≡◌, ◌+◌, length}
use Rattle.scheme_builds.specs.Ranges.{AreRanges, IsBuilt, bound_at}
use Rattle.scheme_builds.proofs.ranges.join_ranges.Given as goal

abbrev pub invariant-loop-k : goal.invariant-loop-k
invariant-loop-k l = record {
  left : length l.made.items + l._k ≡ length l.initial.made.items;
  ranges : AreRanges l.task l.size (l.begun + l._k) l.made.items;
  joined : IsBuilt l.task l.whole 0 (bound_at l.task.survey.graph.now l.size (l.begun + l._k));
}

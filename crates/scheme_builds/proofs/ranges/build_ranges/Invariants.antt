use Rattle.std.proofs.Common.{◌≤◌, ◌-◌}
use Rattle.scheme_builds.specs.Ranges.{bound_at, IsBuilt}
use Rattle.scheme_builds.proofs.ranges.build_ranges.Given as goal

abbrev pub invariant-loop-begun : goal.invariant-loop-begun
invariant-loop-begun g l = record {
  within : l.begun ≤ l.count;
  joined : IsBuilt l.task l.whole 0 (bound_at l.task.survey.graph.now l.roots l.begun);
}

abbrev pub decreases-loop-begun : goal.decreases-loop-begun
decreases-loop-begun g l = l.count - l.begun

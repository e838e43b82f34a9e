use Rattle.std.proofs.Common.{◌-◌, ◌<◌}
use Rattle.table_view.specs.Parts.{IsHalved}
use Rattle.table_view.proofs.search.strides.Given as goal

abbrev pub invariant-loop-stride : goal.invariant-loop-stride
invariant-loop-stride l = record {
  halved : IsHalved l.entries l.count l.root l.base l.size;
  some : 0 < l.stride;
}

abbrev pub decreases-loop-stride : goal.decreases-loop-stride
decreases-loop-stride l = l.size - l.stride

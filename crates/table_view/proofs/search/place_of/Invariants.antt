use Rattle.table_view.specs.Parts.{IsHalved}
use Rattle.table_view.proofs.search.place_of.Given as goal

abbrev pub invariant-loop-size : goal.invariant-loop-size
invariant-loop-size l = IsHalved l.entries l.count l.root l.base l.size

abbrev pub decreases-loop-size : goal.decreases-loop-size
decreases-loop-size l = l.size

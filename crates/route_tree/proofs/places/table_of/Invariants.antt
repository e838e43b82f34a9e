use Rattle.route_tree.specs.Places.{HasPlacesTo}
use Rattle.route_tree.proofs.places.table_of.Given as goal

abbrev pub invariant-loop-i : goal.invariant-loop-i
invariant-loop-i g l = HasPlacesTo l.members l.i l.table.items

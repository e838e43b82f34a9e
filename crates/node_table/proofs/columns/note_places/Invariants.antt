use Rattle.node_table.specs.RowLists.{nodes_linked}
use Rattle.schemes.specs.Places.{ArePlacesTo}
use Rattle.node_table.proofs.columns.note_places.Given as goal

abbrev pub invariant-loop-place : goal.invariant-loop-place
invariant-loop-place l = ArePlacesTo (nodes_linked l.reached) l.place l.places

use Rattle.std.proofs.Common.{take}
use Rattle.node_table.specs.RowLists.{rows_by}
use Rattle.node_table.specs.Building.{GrowBy, entries_for}
use Rattle.node_table.proofs.building.add_entries.Given as goal

abbrev pub invariant-loop-member : goal.invariant-loop-member
invariant-loop-member l = GrowBy l.initial.entries.items l.entries.items (λ x. entries_for x (rows_by l.root l.reached l.places (take l.member-index l.numbered)))

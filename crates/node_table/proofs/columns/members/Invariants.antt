use Rattle.std.proofs.Common.{◌≡◌, map, take}
use Rattle.node_table.specs.Columns.{linked_member}
use Rattle.node_table.proofs.columns.members.Given as goal

abbrev pub invariant-loop-there : goal.invariant-loop-there
invariant-loop-there l = l.all.items ≡ map linked_member (take l.there-index l.reached)

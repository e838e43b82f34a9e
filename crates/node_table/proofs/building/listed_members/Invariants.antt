use Rattle.std.proofs.Common.{◌≡◌, map}
use Rattle.node_table.specs.Building.{listed_member}
use Rattle.node_table.proofs.building.listed_members.Given as goal

abbrev pub invariant-loop-member : goal.invariant-loop-member
invariant-loop-member l = l.all.items ≡ map listed_member l.yielded

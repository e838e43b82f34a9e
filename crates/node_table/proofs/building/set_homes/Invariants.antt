use Rattle.std.proofs.Common.{◌≡◌, map, take, ℕ}
use Rattle.schemes.specs.Tables.{value_at}
use Rattle.node_table.specs.Building.{home_after, listed_member}
use Rattle.node_table.proofs.building.set_homes.Given as goal

abbrev pub invariant-loop-member : goal.invariant-loop-member
invariant-loop-member l = (v : ℕ) → value_at l.homes v ≡ home_after (value_at l.nearest v) l.root (map listed_member (take l.member-index l.numbered)) v (value_at l.initial.homes v)

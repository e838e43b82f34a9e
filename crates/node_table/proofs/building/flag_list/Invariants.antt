use Rattle.std.proofs.Common.{◌≡◌, take}
use Rattle.node_table.proofs.building.flag_list.Given as goal

abbrev pub invariant-loop-flag : goal.invariant-loop-flag
invariant-loop-flag l = l.all.items ≡ take l.flag-index l.flags

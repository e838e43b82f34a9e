use Rattle.std.proofs.Common.{◌≡◌, take}
use Rattle.router_table.proofs.table.members.Given as goal

abbrev pub invariant-loop-listed : goal.invariant-loop-listed
invariant-loop-listed l = l.all.items ≡ take l.listed-index l.directory

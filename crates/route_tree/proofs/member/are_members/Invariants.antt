use Rattle.std.proofs.Common.{ℕ, ◌<◌}
use Rattle.route_tree.specs.Members.{IsNext}
use Rattle.route_tree.specs.Places.{Finds}
use Rattle.route_tree.proofs.member.are_members.Given as goal

abbrev pub invariant-loop-i : goal.invariant-loop-i
invariant-loop-i g l = record { table : Finds l.members l.i l.places.table.items; next : (k : ℕ) → k < l.i → IsNext l.members k }

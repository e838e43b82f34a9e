use Rattle.std.proofs.Common.{ℕ, ◌<◌, get_or}
use Rattle.route_tree.specs.declared.member.Member.{Member}
use Rattle.route_tree.proofs.places.room_for.Given as goal

abbrev pub invariant-loop-member : goal.invariant-loop-member
invariant-loop-member l = (k : ℕ) (d : Member) → k < l.member-index → (get_or l.members k d).node < l.room

use Rattle.std.proofs.Common.{◌≡◌, length}
use Rattle.node_table.specs.Building.{first_list}
use Rattle.schemes.specs.Tables.{items_at}
use Rattle.node_table.proofs.Builds.JoinedPlaces.{AreJoinedBelow}
use Rattle.node_table.proofs.partial.join_directories.Given as goal

abbrev pub invariant-loop-x : goal.invariant-loop-x
invariant-loop-x l = record {
  size : length l.lists.items ≡ length l.initial.lists.items;
  left : length l.next.items ≡ length l.initial.next.items;
  joined : AreJoinedBelow _ _ first_list (items_at l.initial.lists.items) (items_at l.lists.items) (items_at l.initial.next.items) (items_at l.next.items) l.x;
}

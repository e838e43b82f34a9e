use Rattle.std.proofs.Common.{◌≡◌, length}
use Rattle.node_table.specs.Building.{first_some}
use Rattle.schemes.specs.Tables.{value_at}
use Rattle.node_table.proofs.Builds.JoinedPlaces.{AreJoinedBelow}
use Rattle.node_table.proofs.partial.join_homes.Given as goal

abbrev pub invariant-loop-v : goal.invariant-loop-v
invariant-loop-v l = record {
  size : length l.homes.items ≡ length l.initial.homes.items;
  left : length l.next.items ≡ length l.initial.next.items;
  joined : AreJoinedBelow _ _ first_some (λ v. value_at l.initial.homes.items v) (λ v. value_at l.homes.items v) (λ v. value_at l.initial.next.items v) (λ v. value_at l.next.items v) l.v;
}

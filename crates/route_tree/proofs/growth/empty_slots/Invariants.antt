use Rattle.std.proofs.Common.{ℕ, ◌≡◌, length, []}
use Rattle.std.specs.Prelude.{Some, slice_get}
use Rattle.route_tree.proofs.growth.empty_slots.Given as goal

abbrev pub invariant-loop-m : goal.invariant-loop-m
invariant-loop-m g l = (length l.slots.items ≡ l._m-index) × ((k : ℕ) (s : _) → slice_get l.slots.items k ≡ Some s → s.items ≡ [])

use Rattle.std.proofs.Common.{◌≡◌, ℕ, List, length}
use Rattle.std.specs.Prelude.{Option, None}
use Rattle.heavy_labels.specs.Label.{Label}
use Rattle.schemes.specs.Tables.{value_at}
use Rattle.node_table.proofs.building.no_homes.Given as goal

pub record AllNone (labels : List (Option Label)) (n : ℕ) : Type 0 where
  pub size : length labels ≡ n
  pub none : (v : ℕ) → value_at labels v ≡ None

abbrev pub invariant-loop-x : goal.invariant-loop-x
invariant-loop-x l = AllNone l.all.items l._x

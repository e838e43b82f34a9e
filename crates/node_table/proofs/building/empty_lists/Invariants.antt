use Rattle.std.proofs.Common.{◌≡◌, [], ℕ, List, length}
use Rattle.std.specs.declared.vec.Vec.{Vec}
use Rattle.schemes.specs.Tables.{items_at}
use Rattle.node_table.proofs.building.empty_lists.Given as goal

pub record AllEmpty (X A : Type 0) (lists : List (Vec X A)) (n : ℕ) : Type 0 where
  pub size : length lists ≡ n
  pub empty : (x : ℕ) → items_at lists x ≡ []

abbrev pub invariant-loop-x : goal.invariant-loop-x
invariant-loop-x g l = AllEmpty _ _ l.all.items l._x

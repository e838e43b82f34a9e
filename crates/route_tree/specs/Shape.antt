-- The shape of a grown tree: ports at each member below the root, and the heavy child first.
use Rattle.std.specs.Prelude.{◌≡◌, ℕ, ◌+◌, ◌≤◌, Some, None, max}
use Rattle.route_tree.specs.declared.member.TheConstants.{MOST_MEMBERS}
use Rattle.route_tree.specs.Rose.{Forest, no_trees, twig, count, Tree, tree_size, to_list}
use Rattle.route_tree.specs.Front.{IsInOrder}

-- every member of a forest has both ports
abbrev pub HasPorts : Forest → Type 0
HasPorts no_trees = Unit {0}
HasPorts (twig n u d below beside) = ((a : ℕ) × (u ≡ Some a)) × (((b : ℕ) × (d ≡ Some b)) × (HasPorts below × HasPorts beside))

-- the greatest size of the trees of a forest
abbrev pub widest : Forest → ℕ
widest no_trees = 0
widest (twig n u d below beside) = max (1 + count below) (widest beside)

-- no tree of the forest is greater than its first
abbrev pub IsHeavyHead : Forest → Type 0
IsHeavyHead no_trees = Unit {0}
IsHeavyHead (twig n u d below beside) = widest beside ≤ 1 + count below

-- below each member the first child is a heavy one
abbrev pub IsHeavyFirst : Forest → Type 0
IsHeavyFirst no_trees = Unit {0}
IsHeavyFirst (twig n u d below beside) = IsHeavyHead below × (IsHeavyFirst below × IsHeavyFirst beside)

-- the children of each member of a forest are in order: the heavy one first, and the others by ascending node
abbrev pub IsOrdered : Forest → Type 0
IsOrdered no_trees = Unit {0}
IsOrdered (twig n u d below beside) = IsInOrder (to_list below) × (IsOrdered below × IsOrdered beside)

-- what is kept of each tree that was grown
pub record IsRouteTree (t : Tree) : Type 0 where
  pub up : t.up ≡ None
  pub down : t.down ≡ None
  pub ports : HasPorts t.below
  pub order : IsInOrder (to_list t.below)
  pub ordered : IsOrdered t.below
  pub heavy : IsHeavyHead t.below
  pub heavy_below : IsHeavyFirst t.below
  pub few : tree_size t ≤ MOST_MEMBERS

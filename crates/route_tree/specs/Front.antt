-- The heavy child in front.
use Rattle.std.specs.Prelude.{ℕ, suc, ◌+◌, ◌<◌, ◌≤◌, cond, nat_le, List, [], ◌∷◌, ◌++◌, length, take, drop, slice_index_or, ◌≡◌, All}
use Rattle.std.specs.List.Sorted.{IsNonDecreasingBy}
use Rattle.route_tree.specs.Rose.{Tree, tree_size}
use Rattle.route_tree.specs.Order.{heaviest}

-- the first of the greatest trees stands at i
pub record IsHeavy (ts : List Tree) (i : ℕ) : Type 0 where
  pub there : i < length ts
  pub most : (k : ℕ) (d : Tree) → k < length ts → tree_size (slice_index_or ts k d) ≤ tree_size (slice_index_or ts i d)
  pub first : (k : ℕ) (d : Tree) → k < i → tree_size (slice_index_or ts k d) < tree_size (slice_index_or ts i d)

-- where the first of the greatest trees stands
abbrev pub heavy_at : List Tree → ℕ
heavy_at [] = 0
heavy_at (t ∷ ts) = cond (nat_le (heaviest ts) (tree_size t)) 0 (suc (heavy_at ts))

-- the trees up to i, the last of them first, and then the others
abbrev pub fronted_at : List Tree → ℕ → List Tree
fronted_at ts i = let part = take (i + 1) ts in (drop i part ++ take i part) ++ drop (i + 1) ts

-- the heavy tree first, and the others as they were
abbrev pub heavy_to_front : List Tree → List Tree
heavy_to_front ts = fronted_at ts (heavy_at ts)

-- t comes before u as the heavy child: it is no lighter, and at equal sizes its node is no greater
pub record IsHeavyBefore (t u : Tree) : Type 0 where
  pub size : tree_size u ≤ tree_size t
  pub tie : tree_size u ≡ tree_size t → t.node ≤ u.node

-- the heavy child first, and then the others by ascending node
abbrev pub IsInOrder : List Tree → Type 0
IsInOrder [] = Unit {0}
IsInOrder (t ∷ ts) = All (IsHeavyBefore t) ts × IsNonDecreasingBy (λ u. u.node) ts

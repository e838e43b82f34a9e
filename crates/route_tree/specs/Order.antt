-- The order of the children of a member: the heavy child, and then the others by ascending node number.
use Rattle.std.specs.Prelude.{ℕ, ◌==◌, cond, nat_lt, nat_eq, max, List, [], ◌∷◌, ◌++◌, map}
use Rattle.std.specs.List.{IsDistinct}
use Rattle.route_tree.specs.Rose.{Tree, tree_size}

-- t before the first tree of a greater node
abbrev pub insert : Tree → List Tree → List Tree
insert t [] = t ∷ []
insert t (u ∷ us) = cond (nat_lt t.node u.node) (t ∷ u ∷ us) (u ∷ insert t us)

-- the trees by ascending node
abbrev pub ascending : List Tree → List Tree
ascending [] = []
ascending (t ∷ ts) = insert t (ascending ts)

-- the greatest size
abbrev pub heaviest : List Tree → ℕ
heaviest [] = 0
heaviest (t ∷ ts) = max (tree_size t) (heaviest ts)

-- the first tree of size m stands in front of those that were passed, and the rest follow
abbrev pub fronted : ℕ → List Tree → List Tree → List Tree
fronted m passed [] = passed
fronted m passed (t ∷ ts) = cond (tree_size t == m) (t ∷ (passed ++ ts)) (fronted m (passed ++ t ∷ []) ts)

-- the heavy child, and then the others by ascending node
abbrev pub in_order : List Tree → List Tree
in_order ts = let us = ascending ts in fronted (heaviest us) [] us

-- no two trees have the same node at their roots
abbrev pub HaveEachNodeOnce : List Tree → Type 0
HaveEachNodeOnce ts = IsDistinct nat_eq (map (λ t. t.node) ts)

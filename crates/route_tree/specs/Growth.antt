-- The tree that a list of members gives, from the farthest member up.
use Rattle.std.specs.Prelude.{◌≡◌, ℕ, ◌<◌, ◌==◌, Bool, false, cond, Option, Some, None, List, [], ◌∷◌, length, get_or}
use Rattle.route_tree.specs.Rose.{Tree, tree, of_list}
use Rattle.route_tree.specs.Order.{ascending}
use Rattle.route_tree.specs.Front.{heavy_to_front}
use Rattle.route_tree.specs.declared.member.Member.{Member}

-- the node n is the parent
abbrev pub is_parent : ℕ → Option ℕ → Bool
is_parent n None = false
is_parent n (Some p) = p == n

-- the trees, beside the members at their roots, that hang on the node n
abbrev pub trees_on : ℕ → List Member → List Tree → List Tree
trees_on n [] ts = []
trees_on n (m ∷ ms) [] = []
trees_on n (m ∷ ms) (t ∷ ts) = cond (is_parent n m.parent) (t ∷ trees_on n ms ts) (trees_on n ms ts)

-- each member's tree: below it are the trees of the later members whose parent it is
abbrev pub subtrees : List Member → List Tree
subtrees [] = []
subtrees (m ∷ ms) = tree m.node m.up m.down (of_list (heavy_to_front (ascending (trees_on m.node ms (subtrees ms))))) ∷ subtrees ms

-- the first tree; d where there is none
abbrev pub first_or : Tree → List Tree → Tree
first_or d [] = d
first_or d (t ∷ ts) = t

-- the children that wait for a member
abbrev pub waiting : ℕ → List Member → List Tree
waiting n ms = ascending (trees_on n ms (subtrees ms))

-- no node stands twice
abbrev pub IsEachOnce : List Member → Type 0
IsEachOnce ms = (i j : ℕ) (d e : Member) → i < length ms → j < length ms → (get_or ms i d).node ≡ (get_or ms j e).node → i ≡ j

-- Ports: the k-th neighbour of a node, in ascending order, stands behind its port k.
use Rattle.std.specs.Prelude.{ℕ, ◌+◌, ◌==◌, Bool, cond, Option, Some, None, List, [], ◌∷◌, map}
use Rattle.graph_edits.specs.Edges.{Network, neighbours_of}

-- the neighbours of a node in ascending order
abbrev pub neighbours : Network → ℕ → List ℕ
neighbours m x = map (λ e. e.0) (neighbours_of m x)

-- one place further
abbrev pub one_more : Option ℕ → Option ℕ
one_more None = None
one_more (Some k) = Some (k + 1)

-- the first place of a number in a list
abbrev pub index_of : ℕ → List ℕ → Option ℕ
index_of y [] = None
index_of y (x ∷ xs) = cond (x == y) (Some 0) (one_more (index_of y xs))

-- the port of x that leads to y
abbrev pub port_to : Network → ℕ → ℕ → Option ℕ
port_to m x y = index_of y (neighbours m x)

-- the numbers of a list that pass a test
abbrev pub filtered : (ℕ → Bool) → List ℕ → List ℕ
filtered p [] = []
filtered p (x ∷ xs) = cond (p x) (x ∷ filtered p xs) (filtered p xs)

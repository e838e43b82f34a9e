-- The length of a way over nodes.
use Rattle.std.specs.Prelude.{ℕ, List, [], ◌∷◌}
use Rattle.std.specs.Option.{unwrap_or}
use Rattle.graph_edits.specs.Edges.{Network, weight_in}
use Rattle.graph_edits.specs.Walks.{walk_length}

-- the weight of the edge between two nodes, 0 where there is none
abbrev pub hop_in : Network → ℕ → ℕ → ℕ
hop_in m a b = unwrap_or (weight_in m a b) 0

-- from the first node over all others
abbrev pub length_in : Network → List ℕ → ℕ
length_in m [] = 0
length_in m (first ∷ rest) = walk_length m.edges first rest

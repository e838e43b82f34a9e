-- Edges laid over an edge map: pairs that have another weight, or none.
use Rattle.std.specs.Prelude.{◌≡◌, ℕ, ◌≤◌, T, List, [], ◌∷◌, Option, Some, None}
use Rattle.std.specs.FinMap.{insert, remove, len, is_sorted}
use Rattle.graph_edits.specs.Edges.{EdgeMap, Network, pair_cmp, most_edges}

-- pairs in ascending order, each with its new weight
abbrev pub Laid : Type 0
Laid = List ((ℕ × ℕ) × Option ℕ)

-- a map whose pair p has the given weight, or none
abbrev pub lay : EdgeMap → ℕ × ℕ → Option ℕ → EdgeMap
lay m p (Some w) = insert m p w
lay m p None = remove m p

-- a map with all of them
abbrev pub overlaid : EdgeMap → Laid → EdgeMap
overlaid m [] = m
overlaid m (e ∷ es) = lay (overlaid m es) e.0 e.1

-- the network with that map
abbrev pub overlaid_on : Network → Laid → Network
overlaid_on g es = record { nodes = g.nodes; edges = overlaid g.edges es }

-- what an overlay keeps: its pairs ascend, and it knows how many edges there are
pub record IsOverlay (g : Network) (es : Laid) (count : ℕ) : Type 0 where
  pub sorted : T (is_sorted pair_cmp es)
  pub counted : count ≡ len (overlaid g.edges es)
  pub few_edges : count ≤ most_edges

-- The edges of a checkpoint, and their text.
use Rattle.std.specs.Prelude.{◌≡◌, ◌<◌, ◌≤◌, ℕ, List, ◌++◌}
use Rattle.std.specs.Int.{w16, w32, to_be_bytes}
use Rattle.std.specs.List.{flat_map, AllByRecursion}
use Rattle.std.specs.FinMap.{entries}
use Rattle.graph_edits.specs.Edges.{EdgeMap, greatest_weight}

-- an edge and its weight
abbrev pub edge_text : (ℕ × ℕ) × ℕ → List ℕ
edge_text e = to_be_bytes w16 e.0.0 ++ (to_be_bytes w16 e.0.1 ++ to_be_bytes w32 e.1)

-- the edges in ascending order
abbrev pub edges_text : EdgeMap → List ℕ
edges_text edges = flat_map edge_text (entries edges)

-- an edge of a network of so many nodes, its smaller node first
abbrev pub IsEdge : ℕ → (ℕ × ℕ) × ℕ → Type 0
IsEdge nodes e = (e.0.0 < e.0.1) × (e.0.1 < nodes) × (1 ≤ e.1) × (e.1 ≤ greatest_weight)

-- no edges of such a network have this text
abbrev pub ListsNoEdges : ℕ → List ℕ → Type 0
ListsNoEdges nodes text = (map : EdgeMap) → AllByRecursion (λ e. IsEdge nodes e) (entries map) → edges_text map ≡ text → ⊥

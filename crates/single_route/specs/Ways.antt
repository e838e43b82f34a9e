-- Ways over nodes: their ports and their length.
use Rattle.std.specs.Prelude.{◌≡◌, ℕ, ◌-◌, ◌^◌, min, List, [], ◌∷◌, IsSome}
use Rattle.graph_edits.specs.Edges.{Network, weight_in}
use Rattle.graph_edits.specs.Walks.{walk_length}
use Rattle.schemes.specs.Service.{LeadAlong}

-- an edge leads from x to the first node of the list, and from each to the next
abbrev pub AreHops : Network → ℕ → List ℕ → Type 0
AreHops m x [] = Unit {0}
AreHops m x (y ∷ ys) = IsSome (weight_in m x y) × AreHops m y ys

-- an edge leads from each node of the list to the next
abbrev pub IsWay : Network → List ℕ → Type 0
IsWay m [] = Unit {0}
IsWay m (x ∷ xs) = AreHops m x xs

-- the ports along a way, and its length, which stays at the greatest u64 past that
abbrev pub IsMeasured : Network → List ℕ → List ℕ → ℕ → Type 0
IsMeasured m [] ports length = Unit {0}
IsMeasured m (x ∷ xs) ports length = LeadAlong m x xs ports × (length ≡ min (walk_length m.edges x xs) (2 ^ 64 - 1))

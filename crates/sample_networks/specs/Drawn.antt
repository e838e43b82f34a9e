-- Networks that are drawn.
use Rattle.std.specs.Prelude.{ℕ, List, ◌<◌, ◌≤◌, ◌≡◌, ◌⊎◌}
use Rattle.std.specs.List.{All, AllPairs}

-- an edge between two of so many nodes, the second below the first, of a weight from 1 to the heaviest
pub record IsEdge (nodes heaviest : ℕ) (row : ℕ × ℕ × ℕ) : Type 0 where
  pub first : row.0 < nodes
  pub second : row.1 < row.0
  pub some : 1 ≤ row.2
  pub most : row.2 ≤ heaviest

-- its nodes come before these two: by the first, and then by the second
abbrev pub IsBefore : ℕ × ℕ × ℕ → ℕ → ℕ → Type 0
IsBefore row a b = (row.0 < a) ⊎ ((row.0 ≡ a) × (row.1 < b))

-- edges between so many nodes, in ascending order, so at most one between any two
pub record AreEdges (nodes heaviest : ℕ) (rows : List (ℕ × ℕ × ℕ)) : Type 0 where
  pub each : All (IsEdge nodes heaviest) rows
  pub order : AllPairs (λ x y. IsBefore x y.0 y.1) rows

-- some of so many nodes, in ascending order
pub record AreNodes (nodes : ℕ) (drawn : List ℕ) : Type 0 where
  pub each : All (λ node. node < nodes) drawn
  pub order : AllPairs (λ x y. x < y) drawn

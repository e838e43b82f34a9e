-- What contracts see of a workspace: how many nodes it serves, and the tree that it found last.
use Rattle.std.specs.Prelude.{◌≡◌, ◌↔◌, ℕ, List, map, Option, Some, None}
use Rattle.std.specs.List.{All}
use Rattle.graph_edits.specs.Edges.{Network, over_port}
use Rattle.distances.specs.declared.reach.Reached.{Reached}
use Rattle.distances.specs.declared.linked.Linked.{Linked}

-- what contracts see of a workspace: how many nodes it serves, and the tree that it found last
pub record Workspace : Type 0 where
  pub nodes : ℕ
  pub members : List Linked

-- the members without their ports
abbrev pub reached_of : List Linked → List Reached
reached_of members = map (λ m. m.reached) members

-- the port of x that leads to y, if there is one
abbrev pub IsPortTo : Network → ℕ → ℕ → Option ℕ → Type 0
IsPortTo g x y o = (port : ℕ) → (o ≡ Some port) ↔ (over_port g x port ≡ Some y)

-- the ports between a node and its parent, and none where it has none
abbrev pub HasLinks : Network → ℕ → Option ℕ → Option ℕ → Option ℕ → Type 0
HasLinks g x None up down = (up ≡ None) × (down ≡ None)
HasLinks g x (Some y) up down = IsPortTo g x y up × IsPortTo g y x down

-- each member has the ports between it and its parent
abbrev pub AreLinked : Network → List Linked → Type 0
AreLinked g members = All (λ m. HasLinks g m.reached.node m.reached.parent m.up m.down) members

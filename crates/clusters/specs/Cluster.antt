-- Which nodes belong to a cluster.
use Rattle.std.specs.Prelude.{◌≡◌, ℕ, ◌<◌, Bool, List, IfSome}
use Rattle.std.specs.List.{All, Contains}
use Rattle.graph_edits.specs.Edges.{EdgeMap}
use Rattle.graph_edits.specs.Walks.{IsWalk, walk_length, IsLeast}
use Rattle.landmarks.specs.Chosen.{IsLandmark}
use Rattle.distances.specs.declared.reach.Reached.{Reached}

-- d is less than the distance of v from the landmarks: every walk from a landmark to v is longer, and there may be none
abbrev pub IsNearer : EdgeMap → List Bool → ℕ → ℕ → Type 0
IsNearer m flags v d = (a : ℕ) (xs : List ℕ) → IsLandmark flags a → IsWalk m a xs v → d < walk_length m a xs

-- the nodes whose distance from w is less than that from the landmarks, with that distance
pub record IsCluster (m : EdgeMap) (flags : List Bool) (w : ℕ) (members : List Reached) : Type 0 where
  pub exact : All (λ r. IsLeast m (λ s. s ≡ w) r.node r.distance × IsNearer m flags r.node r.distance) members
  pub complete : (v d : ℕ) → IsLeast m (λ s. s ≡ w) v d → IsNearer m flags v d → (r : Reached) × (Contains members r × (r.node ≡ v))

-- each member's parent is a member, and a nearer one
abbrev pub HasParents : List Reached → Type 0
HasParents members = All (λ r. IfSome r.parent (λ y. (k : Reached) × (Contains members k × (k.node ≡ y) × (k.distance < r.distance)))) members

-- The tree of a root in a network with landmarks, by walks alone.
use Rattle.std.specs.Prelude.{◌≡◌, ◌⊎◌, ℕ, ◌+◌, ◌≤◌, Bool, List, Some}
use Rattle.graph_edits.specs.Edges.{EdgeMap, weight_between}
use Rattle.graph_edits.specs.Walks.{IsLeast}
use Rattle.landmarks.specs.Chosen.{IsLandmark}
use Rattle.clusters.specs.Cluster.{IsNearer}

-- x is in the tree of r, at the distance d from it: a landmark's tree has all that it reaches, another node's all that is
-- nearer to it than to every landmark
pub record IsMemberAt (m : EdgeMap) (flags : List Bool) (r x d : ℕ) : Type 0 where
  pub least : IsLeast m (λ s. s ≡ r) x d
  pub belongs : IsLandmark flags r ⊎ IsNearer m flags x d

-- in the tree of r the node x is reached over its neighbour y: y's distance and the edge between make up that of x
pub record IsTightIn (m : EdgeMap) (flags : List Bool) (r x y : ℕ) : Type 0 where
  pub distance : ℕ
  pub before : ℕ
  pub weight : ℕ
  pub member : IsMemberAt m flags r x distance
  pub above : IsMemberAt m flags r y before
  pub edge : weight_between m y x ≡ Some weight
  pub sum : before + weight ≡ distance

-- y is the parent of x in the tree of r: of all neighbours over which x is reached there, the one of the smallest number
pub record IsParentIn (m : EdgeMap) (flags : List Bool) (r x y : ℕ) : Type 0 where
  pub tight : IsTightIn m flags r x y
  pub smallest : (z : ℕ) → IsTightIn m flags r x z → y ≤ z

-- The trail of a packet by a network and its landmarks alone: in which tree it goes, and its path there. No table, label or
-- address stands in these definitions.
use Rattle.std.specs.Prelude.{◌≡◌, ◌⊎◌, ℕ, Bool, List, [], ◌∷◌, ◌++◌, Some, reverse}
use Rattle.std.specs.List.{Contains}
use Rattle.graph_edits.specs.Edges.{EdgeMap, Network}
use Rattle.graph_edits.specs.Walks.{IsWalk, walk_length}
use Rattle.landmarks.specs.Chosen.{IsLandmark}
use Rattle.clusters.specs.Cluster.{IsNearer}
use Rattle.distances.specs.Nearest.{IsNearestOf}
use Rattle.schemes.specs.declared.trail.Trail.{Trail}
use Rattle.schemes.specs.Service.{LeadAlong}
use Rattle.single_route.specs.LandmarkTrees.{IsMemberAt, IsParentIn}

-- from x over the nodes of the list to `at`, each followed by its parent; `at` itself isn't listed
abbrev pub IsClimb : (ℕ → ℕ → Type 0) → ℕ → List ℕ → ℕ → Type 0
IsClimb Parent x [] at = x ≡ at
IsClimb Parent x (y ∷ ys) at = (x ≡ y) × ((z : ℕ) × (Parent y z × IsClimb Parent z ys at))

-- the path in a tree from u to v: up from parent to parent to a node `at`, and down to v. No node below `at` is on both sides
pub record IsTreePath (Parent : ℕ → ℕ → Type 0) (u v : ℕ) (nodes : List ℕ) : Type 0 where
  pub up : List ℕ
  pub at : ℕ
  pub down : List ℕ
  pub rises : IsClimb Parent u up at
  pub falls : IsClimb Parent v down at
  pub apart : (x : ℕ) → Contains up x → Contains down x → ⊥
  pub listed : nodes ≡ up ++ at ∷ reverse down

-- no walk leads from u to v
abbrev pub IsApart : EdgeMap → ℕ → ℕ → Type 0
IsApart m u v = (xs : List ℕ) → IsWalk m u xs v → ⊥

-- v is in u's own tree: u is no landmark, and v is nearer to u than to every landmark
abbrev pub IsInOwnTree : EdgeMap → List Bool → ℕ → ℕ → Type 0
IsInOwnTree m flags u v = (IsLandmark flags u → ⊥) × ((xs : List ℕ) × (IsWalk m u xs v × IsNearer m flags v (walk_length m u xs)))

-- a packet from u to v goes in the tree of r: in u's own where v is in it, else in that of v's nearest landmark
abbrev pub IsRootFor : EdgeMap → List Bool → ℕ → ℕ → ℕ → Type 0
IsRootFor m flags u v r =
    (IsInOwnTree m flags u v × (r ≡ u))
    ⊎ ((IsInOwnTree m flags u v → ⊥) × ((d : ℕ) × IsNearestOf m flags v (Some (record { landmark = r; distance = d }))))

-- the trail from u to v under these landmarks: its nodes are the path in the packet's tree, each port leads to the next node,
-- and its length is that of the walk
pub record IsTrailBetween (m : Network) (flags : List Bool) (u v : ℕ) (trail : Trail) : Type 0 where
  pub root : ℕ
  pub by_rule : IsRootFor m.edges flags u v root
  pub member : (d : ℕ) × IsMemberAt m.edges flags root u d
  pub path : IsTreePath (IsParentIn m.edges flags root) u v trail.nodes.items
  pub rest : List ℕ
  pub begins : trail.nodes.items ≡ u ∷ rest
  pub ports : LeadAlong m u rest trail.ports.items
  pub length : trail.length ≡ walk_length m.edges u rest

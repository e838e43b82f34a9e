-- Trees of least distances with their parents.
use Rattle.std.specs.Prelude.{◌≡◌, ℕ, ◌+◌, ◌≤◌, true, List, Option, Some, None, map}
use Rattle.std.specs.List.{All, Contains, sum_by}
use Rattle.graph_edits.specs.Edges.{EdgeMap, Network, weight_between, degree_of}
use Rattle.graph_edits.specs.Walks.{IsLeast}
use Rattle.distances.specs.Search.{is_below, IsAscending}
use Rattle.distances.specs.declared.search.Settled.{Settled}
use Rattle.distances.specs.declared.reach.Reached.{Reached}

-- the node and its distance, without the parent
abbrev pub settled_of : Reached → Settled
settled_of r = record { node = r.node; distance = r.distance }

-- y is a member of the tree at some distance, from which the edge to x gives the distance d
abbrev pub IsTight : EdgeMap → List Reached → ℕ → ℕ → ℕ → Type 0
IsTight m tree x d y = (k : Reached) × (w : ℕ) × (Contains tree k × (k.node ≡ y) × (weight_between m y x ≡ Some w) × (k.distance + w ≡ d))

-- the smallest-numbered member over which x is reached, and none at the root
abbrev pub IsParent : EdgeMap → ℕ → List Reached → ℕ → ℕ → Option ℕ → Type 0
IsParent m root tree x d None = x ≡ root
IsParent m root tree x d (Some y) = (x ≡ root → ⊥) × IsTight m tree x d y × ((z : ℕ) → IsTight m tree x d z → y ≤ z)

-- the nodes whose distance from the root is below their limit, with that distance and their parent, by distance and then by node
pub record IsTree (m : EdgeMap) (root : ℕ) (limit : ℕ → Option ℕ) (tree : List Reached) : Type 0 where
  pub ascending : IsAscending (map settled_of tree)
  pub exact : All (λ r. IsLeast m (λ s. s ≡ root) r.node r.distance × (is_below r.distance (limit r.node) ≡ true)) tree
  pub complete : (x d : ℕ) → IsLeast m (λ s. s ≡ root) x d → is_below d (limit x) ≡ true → (r : Reached) × (Contains tree r × (r.node ≡ x))
  pub parents : All (λ r. IsParent m root tree r.node r.distance r.parent) tree

-- what contracts see of a tree: its members, and how many entries the search popped
pub record Members : Type 0 where
  pub members : List Reached
  pub pops : ℕ

-- the sum of the members' degrees
abbrev pub degrees_of : Network → List Reached → ℕ
degrees_of g members = sum_by (λ r. degree_of g r.node) members

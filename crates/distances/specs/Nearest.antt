-- The nearest landmark of each node.
use Rattle.std.specs.Prelude.{◌≡◌, ℕ, ◌+◌, ◌≤◌, ◌==◌, Bool, true, false, cond, nat_lt, List, Option, Some, None, length, slice_index_or}
use Rattle.std.specs.Option.{option_map}
use Rattle.graph_edits.specs.Edges.{EdgeMap, Network, weight_between}
use Rattle.graph_edits.specs.Walks.{IsReached, IsLeast}
use Rattle.landmarks.specs.Chosen.{IsLandmark}
use Rattle.landmarks.specs.declared.near.Near.{Near}

-- of the nodes that hold a flag, the nearest to v, the smaller one where two are as near;  none where no walk comes from one
abbrev pub IsNearestOf : EdgeMap → List Bool → ℕ → Option Near → Type 0
IsNearestOf m flags v None = IsReached m (IsLandmark flags) v → ⊥
IsNearestOf m flags v (Some n) = IsLeast m (IsLandmark flags) v n.distance × IsLandmark flags n.landmark × IsLeast m (λ s. s ≡ n.landmark) v n.distance
    × ((a : ℕ) → IsLandmark flags a → IsLeast m (λ s. s ≡ a) v n.distance → n.landmark ≤ a)

-- the nearest landmark of each node is known
pub record KnowsNearest (m : Network) (flags : List Bool) (list : List (Option Near)) : Type 0 where
  -- each node has a flag
  pub flagged : length flags ≡ m.nodes
  -- and a place in the list
  pub listed : length list ≡ m.nodes
  -- where its nearest landmark stands, if a landmark reaches it
  pub nearest : (v : ℕ) → IsNearestOf m.edges flags v (slice_index_or list v None)

-- what contracts see of the nearest landmarks: that of each node, and how many entries the search popped
pub record NearestAll : Type 0 where
  pub nearest : List (Option Near)
  pub pops : ℕ

-- the distance of the nearest landmark as a limit
abbrev pub near_limit : List (Option Near) → ℕ → Option ℕ
near_limit nearest v = option_map (λ n. n.distance) (slice_index_or nearest v None)

-- the nearest landmarks of some choice of landmarks
abbrev pub AreNearest : EdgeMap → List (Option Near) → Type 0
AreNearest m nearest = (flags : List Bool) × ((v : ℕ) → IsNearestOf m flags v (slice_index_or nearest v None))

-- what is known of the nearest landmark of a node
abbrev pub near_at : List (Option Near) → ℕ → Option Near
near_at nearest v = slice_index_or nearest v None

-- from y, whose nearest landmark is n, the edge to x of weight w gives the distance d
abbrev pub IsTightNear : EdgeMap → (ℕ → Option Near) → ℕ → ℕ → ℕ → ℕ → Near → Type 0
IsTightNear m near x d y w n = (near y ≡ Some n) × (weight_between m y x ≡ Some w) × (n.distance + w ≡ d)

-- the smallest landmark over the nodes from which x is reached at distance d
abbrev pub IsLeastOver : EdgeMap → (ℕ → Option Near) → ℕ → ℕ → Option ℕ → Type 0
IsLeastOver m near x d None = (y w : ℕ) (n : Near) → IsTightNear m near x d y w n → ⊥
IsLeastOver m near x d (Some a) = ((y : ℕ) × (w : ℕ) × (n : Near) × (IsTightNear m near x d y w n × (n.landmark ≡ a))) × ((y w : ℕ) (n : Near) → IsTightNear m near x d y w n → a ≤ n.landmark)

-- the nearest landmark of x at distance d: x itself where it is a landmark, else by its neighbours
abbrev pub IsNearBy : EdgeMap → (ℕ → Option Near) → ℕ → ℕ → Bool → Option Near → Type 0
IsNearBy m near x d true o = o ≡ Some (record { landmark = x; distance = d })
IsNearBy m near x d false o = (l : Option ℕ) × ((o ≡ option_map (λ a. record { landmark = a; distance = d }) l) × IsLeastOver m near x d l)

-- the landmark of a node, if an edge of weight w from there gives the distance d
abbrev pub landmark_over : Option Near → ℕ → ℕ → Option ℕ
landmark_over None w d = None
landmark_over (Some n) w d = cond (n.distance + w == d) (Some n.landmark) None

-- the smaller of two numbers, or the one that is there
abbrev pub lesser : Option ℕ → Option ℕ → Option ℕ
lesser None b = b
lesser (Some x) None = Some x
lesser (Some x) (Some y) = cond (nat_lt y x) (Some y) (Some x)

-- The edge over which each node was reached so far: from its parent, by the parent's port.
use Rattle.std.specs.Prelude.{◌≡◌, ◌≢◌, ℕ, ◌+◌, ◌<◌, ◌≤◌, ◌==◌, Bool, true, false, cond, nat_lt, ◌&&◌, ◌||◌, List, Option, Some, None, slice_index_or}
use Rattle.std.specs.Option.{option_map}
use Rattle.graph_edits.specs.Edges.{Network, neighbours_of, degree_of, over_port}
use Rattle.distances.specs.Search.{is_below, is_better}
use Rattle.distances.specs.Table.{IsTightBy}
use Rattle.distances.specs.declared.search.Arrival.{Arrival}

-- the arrival at a node, which is none past the end
abbrev pub arrival_at : List (Option Arrival) → ℕ → Option Arrival
arrival_at arrivals y = slice_index_or arrivals y None

-- whether what is there is less than d
abbrev pub is_nearer : Option ℕ → ℕ → Bool
is_nearer None d = false
is_nearer (Some e) d = nat_lt e d

-- whether d is what is there
abbrev pub is_tied : ℕ → Option ℕ → Bool
is_tied d None = false
is_tied d (Some e) = e == d

-- whether x is smaller than the parent there
abbrev pub is_smaller : ℕ → Option Arrival → Bool
is_smaller x None = false
is_smaller x (Some a) = nat_lt x a.parent

-- whether an arrival at distance d takes the place of the one there: where d is better and below a limit, or as good and from a smaller node
abbrev pub is_taken : Option ℕ → ℕ → Option ℕ → Option Arrival → Arrival → Bool
is_taken limit d there before new = (is_below d limit && is_better d there) || (is_tied d there && is_smaller new.parent before)

-- the arrival after that
abbrev pub arrived : Option ℕ → ℕ → Option ℕ → Option Arrival → Arrival → Option Arrival
arrived limit d there before new = cond (is_taken limit d there before new) (Some new) before

-- the k-th neighbour of x with the weight of the edge
abbrev pub neighbour : Network → ℕ → ℕ → ℕ × ℕ
neighbour g x k = slice_index_or (neighbours_of g x) k (0, 0)

-- what the offers of a node x at distance d to its neighbours change of the arrivals, where `number` has the distances before
pub record IsArriving (g : Network) (limit : ℕ → Option ℕ) (x d : ℕ) (number : ℕ → Option ℕ) (before after : ℕ → Option Arrival) : Type 0 where
  pub neighbours : (k : ℕ) → k < degree_of g x → after (neighbour g x k).0
      ≡ arrived (limit (neighbour g x k).0) (d + (neighbour g x k).1) (number (neighbour g x k).0) (before (neighbour g x k).0) (record { parent = x; down = k })
  pub others : (y : ℕ) → ((k : ℕ) → k < degree_of g x → (neighbour g x k).0 ≢ y) → after y ≡ before y

-- the arrival at y at distance e: none at a source; else from the smallest settled node from which e is attained, by that node's port to y
abbrev pub IsArrival : Network → (ℕ → Option ℕ) → (ℕ → Bool) → ℕ → ℕ → Option Arrival → Type 0
IsArrival g number done y e None = e ≡ 0
IsArrival g number done y e (Some a) = (done a.parent ≡ true) × IsTightBy g.edges number y e a.parent × ((z : ℕ) → done z ≡ true → IsTightBy g.edges number y e z → a.parent ≤ z) × (over_port g a.parent a.down ≡ Some y)

-- those at all nodes that have a number
abbrev pub AreArrivals : Network → (ℕ → Option ℕ) → (ℕ → Bool) → (ℕ → Option Arrival) → Type 0
AreArrivals g number done arrival = (y e : ℕ) → number y ≡ Some e → IsArrival g number done y e (arrival y)

-- the node from which an arrival comes
abbrev pub parent_by : Option Arrival → Option ℕ
parent_by o = option_map (λ a. a.parent) o

-- an arrival came to the node y by the port that it names
abbrev pub IsOverPort : Network → ℕ → Arrival → Type 0
IsOverPort g y a = over_port g a.parent a.down ≡ Some y

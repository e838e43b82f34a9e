-- The distances that a search found, by node.
use Rattle.std.specs.Prelude.{◌≡◌, ℕ, ◌+◌, ◌≤◌, true, List, Option, Some, None}
use Rattle.graph_edits.specs.Edges.{EdgeMap, weight_between}
use Rattle.graph_edits.specs.Walks.{IsWalk, walk_length, IsLeast}
use Rattle.distances.specs.declared.search.Settled.{Settled}
use Rattle.distances.specs.Search.{is_below, EachSettled, HasNode}

-- the number of each node whose distance is below its limit is that distance, and no other node has one
pub record IsTable (m : EdgeMap) (Source : ℕ → Type 0) (limit : ℕ → Option ℕ) (number : ℕ → Option ℕ) : Type 0 where
  pub exact : (y e : ℕ) → number y ≡ Some e → IsLeast m Source y e × (is_below e (limit y) ≡ true)
  pub complete : (s x : ℕ) (xs : List ℕ) → Source s → IsWalk m s xs x → is_below (walk_length m s xs) (limit x) ≡ true → (e : ℕ) × (number x ≡ Some e)

-- the list has the nodes that have a number, with that number
pub record IsListing (number : ℕ → Option ℕ) (order : List Settled) : Type 0 where
  pub listed : EachSettled (λ x d. number x ≡ Some d) order
  pub has : (x d : ℕ) → number x ≡ Some d → HasNode x order

-- over the edge to y, whose number is e, the distance d is attained
abbrev pub IsTightBy : EdgeMap → (ℕ → Option ℕ) → ℕ → ℕ → ℕ → Type 0
IsTightBy m number x d y = (e : ℕ) × ((w : ℕ) × ((number y ≡ Some e) × (weight_between m x y ≡ Some w) × (e + w ≡ d)))

-- the smallest node over an edge from which the distance d of x is attained, if there is one
abbrev pub IsFirstTight : EdgeMap → (ℕ → Option ℕ) → ℕ → ℕ → Option ℕ → Type 0
IsFirstTight m number x d None = (y : ℕ) → IsTightBy m number x d y → ⊥
IsFirstTight m number x d (Some y) = IsTightBy m number x d y × ((z : ℕ) → IsTightBy m number x d z → y ≤ z)

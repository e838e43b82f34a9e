-- What a search from several sources finds, where each node has a limit on its distance.
use Rattle.std.specs.Prelude.{◌≡◌, ℕ, ◌+◌, ◌<◌, ◌≤◌, Bool, true, false, cond, nat_lt, ◌&&◌, ◌⊎◌, ⊤, List, [], ◌∷◌, Option, Some, None, slice_index_or}
use Rattle.std.specs.List.{sum_by}
use Rattle.graph_edits.specs.Edges.{EdgeMap, Network, weight_between, degree_of}
use Rattle.graph_edits.specs.Walks.{IsWalk, walk_length, IsLeast}
use Rattle.distances.specs.declared.search.Settled.{Settled}

-- whether a number is below a limit: where there is none, it is
abbrev pub is_below : ℕ → Option ℕ → Bool
is_below e None = true
is_below e (Some l) = nat_lt e l

-- the flag of a node, which is false past the end
abbrev pub flag_at : List Bool → ℕ → Bool
flag_at flags x = slice_index_or flags x false

-- the number of a node, which is none past the end
abbrev pub number_at : List (Option ℕ) → ℕ → Option ℕ
number_at numbers x = slice_index_or numbers x None

-- the node stands at distance 0
abbrev pub IsAtZero : List (Option ℕ) → ℕ → Type 0
IsAtZero numbers s = number_at numbers s ≡ Some 0

-- limits that rise along an edge by at most its weight
abbrev pub AreGentle : EdgeMap → (ℕ → Option ℕ) → Type 0
AreGentle m limit = (x y w e : ℕ) → weight_between m x y ≡ Some w → is_below (e + w) (limit y) ≡ true → is_below e (limit x) ≡ true

-- node x at distance d stands before y at e: by distance, and then by node
abbrev pub Precedes : ℕ → ℕ → ℕ → ℕ → Type 0
Precedes d x e y = (d < e) ⊎ ((d ≡ e) × (x < y))

-- a settled node stands before all of the list
abbrev pub PrecedesAll : Settled → List Settled → Type 0
PrecedesAll s [] = ⊤
PrecedesAll s (t ∷ ts) = Precedes s.distance s.node t.distance t.node × PrecedesAll s ts

-- each settled node stands before all later ones
abbrev pub IsAscending : List Settled → Type 0
IsAscending [] = ⊤
IsAscending (s ∷ ss) = PrecedesAll s ss × IsAscending ss

-- a fact of each node and its distance
abbrev pub EachSettled : (ℕ → ℕ → Type 0) → List Settled → Type 0
EachSettled P [] = ⊤
EachSettled P (s ∷ ss) = P s.node s.distance × EachSettled P ss

-- the node is in the list
abbrev pub HasNode : ℕ → List Settled → Type 0
HasNode x [] = ⊥
HasNode x (s ∷ ss) = (s.node ≡ x) ⊎ HasNode x ss

-- the nodes whose distance from the sources is below their limit, with these distances, in ascending order
pub record IsSearched (m : EdgeMap) (Source : ℕ → Type 0) (limit : ℕ → Option ℕ) (order : List Settled) : Type 0 where
  pub ascending : IsAscending order
  pub exact : EachSettled (λ x d. IsLeast m Source x d × (is_below d (limit x) ≡ true)) order
  pub complete : (s x : ℕ) (xs : List ℕ) → Source s → IsWalk m s xs x → is_below (walk_length m s xs) (limit x) ≡ true → HasNode x order

-- whether d is better than what is there
abbrev pub is_better : ℕ → Option ℕ → Bool
is_better d None = true
is_better d (Some e) = nat_lt d e

-- what is there after d was offered, below a limit
abbrev pub offered : Option ℕ → ℕ → Option ℕ → Option ℕ
offered limit d there = cond (is_below d limit && is_better d there) (Some d) there

-- what the offers of a node x at distance d to its neighbours change
pub record IsRelaxed (m : EdgeMap) (limit : ℕ → Option ℕ) (x d : ℕ) (before after : ℕ → Option ℕ) : Type 0 where
  pub changed : (y : ℕ) → (after y ≡ before y) ⊎ ((w : ℕ) × ((weight_between m x y ≡ Some w) × (after y ≡ Some (d + w)) × (is_below (d + w) (limit y) ≡ true) × (is_better (d + w) (before y) ≡ true)))
  pub reached : (y w : ℕ) → weight_between m x y ≡ Some w → is_below (d + w) (limit y) ≡ true → (e : ℕ) × ((after y ≡ Some e) × (e ≤ d + w))

-- the number of a node before the search: 0 for a source
abbrev pub first_number : Bool → Option ℕ
first_number true = Some 0
first_number false = None

-- the sum of the degrees of settled nodes
abbrev pub degrees : Network → List Settled → ℕ
degrees g order = sum_by (λ s. degree_of g s.node) order

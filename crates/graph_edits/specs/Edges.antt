-- The edge map of a network: a finite map from pairs of nodes, the smaller first, to weights.
use Rattle.std.specs.Prelude.{◌≡◌, ℕ, zero, suc, ◌<◌, ◌≤◌, cond, nat_lt, List, [], ◌∷◌, ◌++◌, length, Option, Some, refl}
use Rattle.std.specs.Ordering.{nat_cmp, ordering_then}
use Rattle.std.specs.declared.cmp.Ordering.{Ordering}
use Rattle.std.specs.FinMap.{FinMap, get, len, code}
use Rattle.std.specs.Coded.{Coded, coded×, coded_ℕ, code_by}
use Rattle.std.specs.List.{filter_map, slice_get, sum_by}
use Rattle.std.specs.Option.{option_map}
pub use Rattle.graph_edits.specs.Limits.{most_nodes, most_edges, greatest_weight, most_ops}

-- the order of pairs: by the first node, and then by the second
abbrev pub pair_cmp : ℕ × ℕ → ℕ × ℕ → Ordering
pair_cmp p q = ordering_then (nat_cmp p.0 q.0) (nat_cmp p.1 q.1)

-- the edges of a network: each pair, the smaller node first, with its weight
abbrev pub EdgeMap : Type 0
EdgeMap = FinMap pair_cmp ℕ

-- the pair of two nodes, in whichever order they are given
abbrev pub pair_of : ℕ → ℕ → ℕ × ℕ
pair_of a b = cond (nat_lt a b) (a, b) (b, a)

-- the weight of the edge between two nodes
abbrev pub weight_between : EdgeMap → ℕ → ℕ → Option ℕ
weight_between m a b = get m (pair_of a b)

-- a network: the number of its nodes, which are 0 to `nodes` - 1, and its edges
pub record Network : Type 0 where
  pub nodes : ℕ
  pub edges : EdgeMap

-- a network is stored as the pair of its fields
abbrev pub network_code : Coded Network
network_code = code_by (ℕ × EdgeMap) (coded× coded_ℕ (code (coded× coded_ℕ coded_ℕ) coded_ℕ)) (λ g. (g.nodes, g.edges)) (λ p. record { nodes = p.0; edges = p.1 }) (λ _. refl)

-- the same in a network
abbrev pub weight_in : Network → ℕ → ℕ → Option ℕ
weight_in g a b = weight_between g.edges a b

-- the numbers below n, in order
abbrev pub below : ℕ → List ℕ
below zero = []
below (suc n) = below n ++ n ∷ []

-- the neighbours of a node with the weights of the edges, in ascending order. The k-th has the port k
abbrev pub neighbours_of : Network → ℕ → List (ℕ × ℕ)
neighbours_of g x = filter_map (λ y. option_map (λ w. (y, w)) (weight_in g x y)) (below g.nodes)

-- how many neighbours a node has
abbrev pub degree_of : Network → ℕ → ℕ
degree_of g x = length (neighbours_of g x)

-- and how many all nodes have together
abbrev pub all_degrees : Network → ℕ
all_degrees g = sum_by (λ x. degree_of g x) (below g.nodes)

-- each edge has its smaller node first, joins two different nodes of the network, and its weight is in range
pub record IsSound (g : Network) : Type 0 where
  pub ordered : (a b w : ℕ) → get g.edges (a, b) ≡ Some w → a < b
  pub within : (a b w : ℕ) → weight_in g a b ≡ Some w → (a < g.nodes) × (b < g.nodes)
  pub loopless : (a w : ℕ) → weight_in g a a ≡ Some w → ⊥
  pub weighted : (a b w : ℕ) → weight_in g a b ≡ Some w → (1 ≤ w) × (w ≤ greatest_weight)
  pub nodes_fit : (1 ≤ g.nodes) × (g.nodes ≤ most_nodes)
  pub edges_fit : len g.edges ≤ most_edges

-- the neighbour behind a port
abbrev pub over_port : Network → ℕ → ℕ → Option ℕ
over_port g x port = option_map (λ e. e.0) (slice_get (neighbours_of g x) port)

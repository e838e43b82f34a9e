-- How a graph keeps its edges: for each node the list of its neighbours with the weights, in ascending order.
use Rattle.std.specs.Prelude.{Vec, ◌≡◌, ℕ, suc, ◌+◌, ◌<◌, ◌≤◌, Bool, cond, ◌==◌, ◌&&◌, ◌||◌, nat_lt, T, List, [], ◌∷◌, map, length, Some, None, slice_index_or, slice_set, not, ◌≢◌}
use Rattle.std.specs.Ordering.{nat_cmp, eq_by_cmp}
use Rattle.std.specs.declared.alloc.Global.{Global}
use Rattle.std.specs.declared.cmp.Ordering.{Ordering}
use Rattle.std.specs.declared.cmp.Ordering.TheVariants.{Equal}
use Rattle.std.specs.List.{sum_by}
use Rattle.std.specs.FinMap.{find, put, is_sorted, insert, empty, len}
use Rattle.std.specs.FinMap.Entries.{by_order, where_key}
use Rattle.graph_edits.specs.Edges.{EdgeMap, Network, most_nodes, most_edges, greatest_weight}

module _ {K X : Type 0} (R : K → K → Ordering) where
  -- the place of the first entry whose key is not below k
  abbrev pub place : K → List (K × X) → ℕ
  place k [] = 0
  place k (e ∷ es) = by_order (R k e.0) 0 0 (suc (place k es))

  -- without the entry at k, in a list whose keys strictly rise
  abbrev pub cut : K → List (K × X) → List (K × X)
  cut k [] = []
  cut k (e ∷ es) = by_order (R k e.0) (e ∷ es) es (e ∷ cut k es)

  -- the entry with the key k is at place i
  abbrev pub HasAt : List (K × X) → K → ℕ → Type 0
  HasAt es k i = (i ≡ place k es) × (i < length es) × ((d : K × X) → R k (slice_index_or es i d).0 ≡ Equal)

  -- no entry has the key k, and one would be inserted at place i
  abbrev pub MissesAt : List (K × X) → K → ℕ → Type 0
  MissesAt es k i = (i ≡ place k es) × (i ≤ length es) × ((d : K × X) → i < length es → R k (slice_index_or es i d).0 ≢ Equal)

-- the pair of x and y is that of a and b
abbrev pub joins : ℕ → ℕ → ℕ → ℕ → Bool
joins a b x y = (x == a && y == b) || (x == b && y == a)

-- the neighbours of a node with the weights
abbrev pub Row : Type 0
Row = List (ℕ × ℕ)

-- the row of the node x
abbrev pub row_of : List Row → ℕ → Row
row_of rows x = slice_index_or rows x []

-- the edges of x to greater nodes, added to those of a map
abbrev pub with_row : ℕ → Row → EdgeMap → EdgeMap
with_row x [] m = m
with_row x (e ∷ es) m = cond (nat_lt x e.0) (insert (with_row x es m) (x, e.0) e.1) (with_row x es m)

-- the edges of rows, the first of which is that of x
abbrev pub edges_from : ℕ → List Row → EdgeMap
edges_from x [] = empty
edges_from x (row ∷ rows) = with_row x row (edges_from (suc x) rows)

-- the network that rows stand for
abbrev pub network_of : List Row → Network
network_of rows = record { nodes = length rows; edges = edges_from 0 rows }

-- rows of a graph with so many edges: each ascends, an edge stands in the rows of both its nodes, and the limits are kept
pub record AreRows (rows : List Row) (count : ℕ) : Type 0 where
  pub sorted : (x : ℕ) → T (is_sorted nat_cmp (row_of rows x))
  pub mirrored : (x y : ℕ) → find nat_cmp y (row_of rows x) ≡ find nat_cmp x (row_of rows y)
  pub loopless : (x : ℕ) → find nat_cmp x (row_of rows x) ≡ None
  pub weighted : (x y w : ℕ) → find nat_cmp y (row_of rows x) ≡ Some w → (1 ≤ w) × (w ≤ greatest_weight)
  pub some_nodes : (1 ≤ length rows) × (length rows ≤ most_nodes)
  pub counted : count ≡ len (edges_from 0 rows)
  pub both_ways : sum_by length rows ≡ count + count
  pub few_edges : count ≤ most_edges

-- the rows that a graph holds, as lists
abbrev pub lists : List (Vec (ℕ × ℕ) Global) → List Row
lists rows = map (λ row. row.items) rows

-- the rows of a and b after the edge between them got the weight w
abbrev pub put_both : List Row → ℕ → ℕ → ℕ → List Row
put_both rows a b w = slice_set (slice_set rows a (put nat_cmp b w (row_of rows a))) b (put nat_cmp a w (row_of rows b))

-- a row without the entry of the node k
abbrev pub cut_row : ℕ → Row → Row
cut_row k row = where_key nat_cmp (λ x. not (eq_by_cmp nat_cmp k x)) row

-- and after it was cut
abbrev pub cut_both : List Row → ℕ → ℕ → List Row
cut_both rows a b = slice_set (slice_set rows a (cut_row b (row_of rows a))) b (cut_row a (row_of rows b))

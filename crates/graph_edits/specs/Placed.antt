-- New rows for some nodes, made beside those of a graph before they are put in their place.
use Rattle.std.specs.Prelude.{Vec, ℕ, ◌<◌, T, List, [], ◌∷◌, map, Option, Some, None, Result, slice_set, refl}
use Rattle.std.specs.Ordering.{nat_cmp}
use Rattle.std.specs.List.{All}
use Rattle.std.specs.FinMap.{is_sorted}
use Rattle.std.specs.Coded.{Coded, coded×, code_by}
use Rattle.std.specs.declared.alloc.Global.{Global}
use Rattle.graph_edits.specs.declared.edits.Op.{Op}
use Rattle.graph_edits.specs.declared.edits.Code.{Code}
use Rattle.graph_edits.specs.Changes.{edges_after}
use Rattle.graph_edits.specs.Edges.{EdgeMap, Network, network_code, below, neighbours_of}
use Rattle.graph_edits.specs.Rows.{Row, AreRows, edges_from, put_both, cut_both}

-- nodes, each with its new row
abbrev pub Slots : Type 0
Slots = List (ℕ × Vec (ℕ × ℕ) Global)

-- rows with the new ones in their place
abbrev pub placed : List Row → Slots → List Row
placed rows [] = rows
placed rows (e ∷ es) = slice_set (placed rows es) e.0 e.1.items

-- the nodes that have a new row ascend, and are below n
pub record AreSlots (n : ℕ) (es : Slots) : Type 0 where
  pub sorted : T (is_sorted nat_cmp es)
  pub within : All (λ e. e.0 < n) es

-- the rows of a and b after the edge between them got a weight, or was cut
abbrev pub rows_with : List Row → ℕ → ℕ → Option ℕ → List Row
rows_with rows a b (Some w) = put_both rows a b w
rows_with rows a b None = cut_both rows a b

-- what ops make of the edges that the rows of so many nodes have
abbrev pub edited_edges : ℕ → List Row → List Op → Result EdgeMap (ℕ × Code)
edited_edges nodes rows ops = edges_after nodes (edges_from 0 rows) 0 ops

-- the rows of a network
abbrev pub rows_of : Network → List Row
rows_of g = map (λ x. neighbours_of g x) (below g.nodes)

-- a network that is to become another
pub record Preparation : Type 0 where
  pub before : Network
  pub after : Network

-- a preparation is stored as the pair of its fields
abbrev pub preparation_code : Coded Preparation
preparation_code = code_by (Network × Network) (coded× network_code network_code) (λ p. (p.before, p.after)) (λ p. record { before = p.0; after = p.1 }) (λ _. refl)

-- what a preparation keeps: new rows that with the others are the rows of a graph
pub record IsPrepared (g : Network) (es : Slots) (count : ℕ) : Type 0 where
  pub slots : AreSlots g.nodes es
  pub rows : AreRows (placed (rows_of g) es) count

-- The network of a table.
use Rattle.std.specs.Prelude.{◌≡◌, ◌≤◌, ℕ, List, map, Result, Ok, Err}
use Rattle.std.specs.FinMap.{empty}
use Rattle.graph_edits.specs.Changes.{after}
use Rattle.graph_edits.specs.Edges.{Network, most_nodes}
use Rattle.graph_edits.specs.declared.edits.Code.{Code}
use Rattle.graph_edits.specs.declared.edits.Op.{Op}
use Rattle.graph_edits.specs.declared.edits.Op.TheVariants.{Add}
use Rattle.sample_networks.specs.declared.tables.TableRefused.{TableRefused}
use Rattle.sample_networks.specs.declared.tables.TableRefused.TheVariants.{Nodes, Row, Memory}

-- a row adds the edge of its two nodes and its weight
abbrev pub added : ℕ × ℕ × ℕ → Op
added row = Add row.0 row.1 row.2

-- a network of so many nodes and no edge
abbrev pub bare : ℕ → Network
bare nodes = record { nodes = nodes; edges = empty }

-- The network has so many nodes and exactly the edges of the table: each row adds one, in order, and none is refused.
abbrev pub IsOfTable : ℕ → List (ℕ × ℕ × ℕ) → Network → Type 0
IsOfTable nodes table graph = after (bare nodes) (map added table) ≡ Ok graph

-- why a table has no network: there can't be so many nodes, or this row is the first that is refused
abbrev pub IsTableRefused : ℕ → List (ℕ × ℕ × ℕ) → TableRefused → Type 0
IsTableRefused nodes table Nodes = ¬ ((1 ≤ nodes) × (nodes ≤ most_nodes))
IsTableRefused nodes table (Row place code) = after (bare nodes) (map added table) ≡ Err (place, code)
IsTableRefused nodes table Memory = Unit {0}

-- the answer names the only row, which stands at a place, and why it is refused; or speaks of memory alone
abbrev pub IsRowRefused : ℕ → Result Network (ℕ × Code) → TableRefused → Type 0
IsRowRefused place made Nodes = ⊥
IsRowRefused place made (Row at code) = (at ≡ place) × (made ≡ Err (0, code))
IsRowRefused place made Memory = Unit {0}

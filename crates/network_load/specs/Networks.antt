-- The network of a list of edges.
use Rattle.std.specs.Prelude.{◌≡◌, ◌⊎◌, ◌↔◌, ℕ, List, [], ◌∷◌, Some, length, take}
use Rattle.std.specs.FinMap.{len}
use Rattle.std.specs.List.{slice_get}
use Rattle.graph_edits.specs.declared.edits.Op.{Op}
use Rattle.graph_edits.specs.declared.edits.Op.TheVariants.{Add}
use Rattle.graph_edits.specs.declared.edits.Code.{Code}
use Rattle.graph_edits.specs.declared.edits.EditRefused.{EditRefused}
use Rattle.graph_edits.specs.declared.edits.EditRefused.TheVariants.{Op as OpRefused, Memory as EditMemory}
use Rattle.graph_edits.specs.Changes.{refusal_at}
use Rattle.graph_edits.specs.Edges.{Network, pair_of, weight_in}
use Rattle.network_load.specs.declared.list.Edge.{Edge}
use Rattle.network_load.specs.declared.network.EdgeRefused.{EdgeRefused}
use Rattle.network_load.specs.declared.network.EdgeRefused.TheVariants.{Edge as Refused, Memory}

-- the op that adds an edge
abbrev pub op_of : Edge → Op
op_of edge = Add edge.a edge.b edge.weight

-- the edge joins these two nodes, in either order, with this weight
abbrev pub Joins : Edge → ℕ → ℕ → ℕ → Type 0
Joins edge a b weight = (pair_of edge.a edge.b ≡ pair_of a b) × (edge.weight ≡ weight)

-- one of the edges does
abbrev pub SomeJoins : List Edge → ℕ → ℕ → ℕ → Type 0
SomeJoins [] a b weight = ⊥
SomeJoins (edge ∷ edges) a b weight = Joins edge a b weight ⊎ SomeJoins edges a b weight

-- A network of so many nodes has just these edges: two nodes have an edge of a weight exactly where one of these joins them with it, and there are as
-- many, so each is there once.
pub record HoldsJust (nodes : ℕ) (edges : List Edge) (graph : Network) : Type 0 where
  pub nodes_are : graph.nodes ≡ nodes
  pub just : (a b weight : ℕ) → (weight_in graph a b ≡ Some weight) ↔ SomeJoins edges a b weight
  pub count : len graph.edges ≡ length edges

-- The edge at this place is refused for this cause by the network of those before it, which all have been taken.
pub record IsRefusedAt (nodes : ℕ) (edges : List Edge) (place : ℕ) (code : Code) : Type 0 where
  pub before : Network
  pub taken : HoldsJust nodes (take place edges) before
  pub edge : Edge
  pub there : slice_get edges place ≡ Some edge
  pub why : refusal_at nodes before.edges (op_of edge) ≡ Some code

-- what is told of the edge at a place that is refused
abbrev pub refused_as : ℕ → EditRefused → EdgeRefused
refused_as place (OpRefused index code) = Refused place code
refused_as place EditMemory = Memory

-- why edges are no network of so many nodes
abbrev pub IsNoNetwork : ℕ → List Edge → EdgeRefused → Type 0
IsNoNetwork nodes edges (Refused place code) = IsRefusedAt nodes edges place code
IsNoNetwork nodes edges Memory = Unit {0}

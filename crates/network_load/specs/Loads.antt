-- The devices that are made.
use Rattle.std.specs.Prelude.{◌≡◌, ◌+◌, ◌-◌, ◌/◌, ◌≤◌, ℕ, List, [], ◌∷◌, Option, None, Some, Ok, Err, IfSome, length, max, replicate, take, unwrap_or}
use Rattle.std.specs.List.{slice_get}
use Rattle.graph_edits.specs.Edges.{Network, pair_of, most_nodes}
use Rattle.graph_edits.specs.declared.edits.Code.{Code}
use Rattle.layout_2.specs.State.{State, state_with}
use Rattle.layout_2.specs.Standing.{StandsFor}
use Rattle.network_load.specs.declared.list.Edge.{Edge}
use Rattle.network_load.specs.declared.loading.LoadRefused.{LoadRefused}
use Rattle.network_load.specs.declared.loading.LoadRefused.TheVariants.{Line, Edge as Refused, NodeCount, Memory, Device}
use Rattle.network_load.specs.declared.loading.Made.{Made}
use Rattle.network_load.specs.Lists.{list_says}
use Rattle.network_load.specs.Networks.{HoldsJust, IsRefusedAt}

-- ---- a list

-- the greatest number that a node may have, where so many nodes are asked for, or none are
abbrev pub last_for : Option ℕ → ℕ
last_for asked = unwrap_or asked most_nodes - 1

-- one more than the greatest number among edges
abbrev pub nodes_in : List Edge → ℕ
nodes_in [] = 0
nodes_in (edge ∷ edges) = max (max edge.a edge.b + 1) (nodes_in edges)

-- how many nodes there are: as many as are asked for, or else one more than the greatest number
abbrev pub nodes_for : Option ℕ → List Edge → ℕ
nodes_for asked edges = unwrap_or asked (nodes_in edges)

-- how many changes of 16 edges so many edges are
abbrev pub changes_for : ℕ → ℕ
changes_for edges = (edges + 15) / 16

-- the last tickets where session 0 has sent so many changes, and no other any
abbrev pub first_tickets : ℕ → List ℕ
first_tickets count = count ∷ replicate 63 0

-- What is made of a list: bytes that stand for a network of just its edges, in which they have come as changes of 16 edges of session 0.
pub record IsLoadOf (text : List ℕ) (asked : Option ℕ) (made : Made) : Type 0 where
  pub edges : List Edge
  pub graph : Network
  pub says : list_says (last_for asked) text ≡ Ok edges
  pub holds : HoldsJust (nodes_for asked edges) edges graph
  pub stands : StandsFor (state_with (changes_for (length edges)) graph (first_tickets (changes_for (length edges)))) made.bytes.items
  pub count : made.count ≡ changes_for (length edges)
  pub edge_count : made.edges ≡ length edges
  pub node_count : made.nodes ≡ nodes_for asked edges

-- one of these edges joins the same two nodes, and this is its line
pub record IsFirstOf (edges : List Edge) (line : ℕ) (edge : Edge) : Type 0 where
  pub at : ℕ
  pub first : Edge
  pub there : slice_get edges at ≡ Some first
  pub same : pair_of first.a first.b ≡ pair_of edge.a edge.b
  pub line_is : first.line ≡ line

-- the line of an edge at a place; where it is told, an edge before it has its two nodes
pub record IsLineOf (edges : List Edge) (place line : ℕ) (first : Option ℕ) : Type 0 where
  pub edge : Edge
  pub there : slice_get edges place ≡ Some edge
  pub line_is : edge.line ≡ line
  pub first_is : IfSome first (λ other. IsFirstOf (take place edges) other edge)

-- what is told of an edge at a place that is refused
abbrev pub IsToldOf : List Edge → ℕ → Code → LoadRefused → Type 0
IsToldOf edges place code (Refused line why first) = (why ≡ code) × IsLineOf edges place line first
IsToldOf edges place code other = ⊥

-- a line of a list whose edge the network of those before it refuses
pub record IsEdgeRefused (text : List ℕ) (asked : Option ℕ) (line : ℕ) (code : Code) (first : Option ℕ) : Type 0 where
  pub edges : List Edge
  pub says : list_says (last_for asked) text ≡ Ok edges
  pub place : ℕ
  pub refused : IsRefusedAt (nodes_for asked edges) edges place code
  pub told : IsLineOf edges place line first

-- why nothing is made of a list
abbrev pub IsLoadRefused : List ℕ → Option ℕ → LoadRefused → Type 0
IsLoadRefused text asked (Line line fault) = list_says (last_for asked) text ≡ Err line
IsLoadRefused text asked (Refused line code first) = IsEdgeRefused text asked line code first
IsLoadRefused text asked NodeCount = (asked ≡ None) × (list_says (last_for asked) text ≡ Ok [])
IsLoadRefused text asked Memory = Unit {0}
IsLoadRefused text asked Device = Unit {0}

-- as many nodes are asked for as a device may have
abbrev pub IsNodeCount : ℕ → Type 0
IsNodeCount nodes = (1 ≤ nodes) × (nodes ≤ most_nodes)

-- ---- a larger device

-- the same count, the same edges and the same last tickets, among so many nodes
abbrev pub with_nodes : State → ℕ → State
with_nodes state nodes = state_with state.count (record { nodes = nodes; edges = state.graph.edges }) state.tickets

-- a device of one number of nodes can grow to the other
abbrev pub CanGrow : ℕ → ℕ → Type 0
CanGrow from to = (from ≤ to) × (to ≤ most_nodes)

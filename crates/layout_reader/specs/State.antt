-- What a device holds: a network, how many changes made it, and tickets.
use Rattle.std.specs.Prelude.{◌≡◌, ◌+◌, ◌≤◌, ℕ, List, ◌++◌, length, map, Option, Some}
use Rattle.std.specs.Int.{w16, w32, w64, to_be_bytes}
use Rattle.std.specs.Option.{option_map}
use Rattle.std.specs.FinMap.{entries, get}
use Rattle.graph_edits.specs.declared.edits.Op.{Op}
use Rattle.graph_edits.specs.Edges.{Network}
use Rattle.graph_edits.specs.Changes.{fold_within}
use Rattle.journal.specs.Forms.{EntryForm}
use Rattle.layout_reader.specs.declared.sizes.Sizes.{Sizes}
use Rattle.layout_reader.specs.EdgeTexts.{edges_text, IsEdge}
use Rattle.layout_reader.specs.Forms.{LayoutForm}

-- what a device stands for: how many changes were accepted, the network that they made, and the last tickets
pub record State (T : Type 0) : Type 0 where
  pub count : ℕ
  pub graph : Network
  pub tickets : T

-- the state of these parts
abbrev pub state_with : {T : Type 0} → ℕ → Network → T → State T
state_with count graph tickets = record { count = count; graph = graph; tickets = tickets }

-- a network within the limits
pub record IsLawful (sizes : Sizes) (graph : Network) : Type 0 where
  pub some_nodes : 1 ≤ graph.nodes
  pub few_nodes : graph.nodes ≤ sizes.most_nodes
  pub few_edges : length (entries graph.edges) ≤ sizes.most_edges
  pub each : (pair : ℕ × ℕ) (weight : ℕ) → get graph.edges pair ≡ Some weight → IsEdge graph.nodes (pair, weight)

-- what stands behind an epoch: numbers, tickets and edges
abbrev pub state_text : {T : Type 0} → (T → List ℕ) → State T → List ℕ
state_text tickets_text state = to_be_bytes w64 state.count ++ (to_be_bytes w16 state.graph.nodes ++ (to_be_bytes w32 (length (entries state.graph.edges)) ++ (tickets_text state.tickets ++ edges_text state.graph.edges)))

module _ {E T : Type 0} {F : EntryForm E} (form : LayoutForm F T) where
  -- what entries ask for, in order
  abbrev pub changes_of : List E → List (List Op)
  changes_of es = map form.change_of es

  -- the state after entries in order, each accepted
  abbrev pub after : State T → List E → Option (State T)
  after state es = option_map (λ graph. state_with (state.count + length es) graph (form.tickets_after state.tickets es)) (fold_within form.sizes.most_edges state.graph (changes_of es))

  -- what stands behind a slot's gate
  abbrev pub checkpoint_text : ℕ → State T → List ℕ
  checkpoint_text epoch state = to_be_bytes w64 epoch ++ state_text form.tickets_text state

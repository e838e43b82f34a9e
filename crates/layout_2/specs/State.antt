-- What a device holds: a network, how many changes made it, and the last ticket of each session.
use Rattle.std.specs.Prelude.{ℕ, List, replicate, Option}
use Rattle.std.specs.FinMap.{empty}
use Rattle.graph_edits.specs.declared.edits.Op.{Op}
use Rattle.graph_edits.specs.Edges.{Network}
pub use Rattle.layout_reader.specs.EdgeTexts.{edge_text, edges_text, IsEdge}
use Rattle.layout_reader.specs.State.{State as StateOf, after as after_by, changes_of as changes_by, checkpoint_text as checkpoint_text_by, state_text as state_text_by, IsLawful as IsLawfulBy}
pub use Rattle.layout_2.specs.Tickets.{asked, IsNext, AreInTurn, AreTickets, tickets_text}
use Rattle.layout_2.specs.Records.{Entry}
use Rattle.layout_2.specs.Layout.{sessions, sizes}
use Rattle.layout_2.specs.Form.{layout_form}

-- what a device stands for: how many changes were accepted, the network that they made, and each session's last ticket
abbrev pub State : Type 0
State = StateOf (List ℕ)

-- the state of these parts
abbrev pub state_with : ℕ → Network → List ℕ → State
state_with count graph tickets = record { count = count; graph = graph; tickets = tickets }

-- no edges and no tickets yet
abbrev pub first_state : ℕ → State
first_state nodes = state_with 0 (record { nodes = nodes; edges = empty }) (replicate sessions 0)

-- what is asked for, in order
abbrev pub changes_of : List Entry → List (List Op)
changes_of = changes_by layout_form

-- the state after requests in order, each accepted
abbrev pub after : State → List Entry → Option State
after = after_by layout_form

-- what stands behind an epoch
abbrev pub state_text : State → List ℕ
state_text = state_text_by tickets_text

-- what stands behind a slot's gate
abbrev pub checkpoint_text : ℕ → State → List ℕ
checkpoint_text = checkpoint_text_by layout_form

-- a network within the limits
abbrev pub IsLawful : Network → Type 0
IsLawful = IsLawfulBy sizes

-- What one change does to a device, and what is answered.
use Rattle.std.specs.Prelude.{◌+◌, ◌<◌, ℕ, List, Option, Some, None, Ok, Err}
use Rattle.std.specs.Result.{IsOk}
use Rattle.graph_edits.specs.declared.edits.Op.{Op}
use Rattle.graph_edits.specs.Changes.{after as graph_after}
use Rattle.requests.specs.Tickets.{last_of, raise}
use Rattle.requests.specs.declared.request.Request.{Request}
use Rattle.layout_2.specs.State.{State, state_with}
use Rattle.generations.specs.declared.posting.Verdict.{Verdict}
use Rattle.generations.specs.declared.posting.Verdict.TheVariants.{Accepted, Refused}

-- a session's last ticket
abbrev pub last_ticket : State → ℕ → ℕ
last_ticket state session = last_of state.tickets session

-- the ticket of a change: the one that is named, or else the next
abbrev pub ticket_of : ℕ → Option ℕ → ℕ
ticket_of last None = last + 1
ticket_of last (Some ticket) = ticket

-- the ticket of a session's change is above its last one, so it was never taken
abbrev pub IsNew : State → ℕ → Option ℕ → Type 0
IsNew state session named = last_ticket state session < ticket_of (last_ticket state session) named

-- what becomes of a change: it counts, or its first refused op is named
abbrev pub verdict_of : State → List Op → Verdict
verdict_of state change = elim (graph_after state.graph change) [ Ok graph ↦ Accepted (state.count + 1) | Err at ↦ Refused at.0 at.1 ]

-- the graph takes the change
abbrev pub IsTaken : State → List Op → Type 0
IsTaken state change = IsOk (graph_after state.graph change)

-- the state with a session's change under a ticket, where it is accepted, else as it was
abbrev pub state_under : State → ℕ → ℕ → List Op → State
state_under state session ticket change = elim (graph_after state.graph change) [ Ok graph ↦ state_with (state.count + 1) graph (raise state.tickets (session, ticket)) | Err at ↦ state ]

-- so by a request
abbrev pub state_by : State → Request → State
state_by state request = state_under state request.session request.ticket request.change

-- so under the ticket of the change
abbrev pub state_after : State → ℕ → Option ℕ → List Op → State
state_after state session named change = state_under state session (ticket_of (last_ticket state session) named) change

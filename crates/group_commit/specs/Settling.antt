-- What becomes of requests, one after another.
use Rattle.std.specs.Prelude.{◌+◌, ℕ, List, [], ◌∷◌, Ok, Err}
use Rattle.graph_edits.specs.declared.edits.Code.{Code}
use Rattle.graph_edits.specs.Edges.{Network}
use Rattle.graph_edits.specs.Changes.{after as graph_after}
use Rattle.requests.specs.declared.request.Request.{Request}
use Rattle.requests.specs.Requests.{asked_by}
use Rattle.requests.specs.Tickets.{raise}
use Rattle.layout_2.specs.State.{State, state_with}
use Rattle.generations.specs.declared.posting.Mark.{Mark}
use Rattle.generations.specs.declared.posting.Verdict.TheVariants.{Accepted, Refused}

-- one mark for each request, the requests that are accepted, and the state after them
pub record Settled : Type 0 where
  pub marks : List Mark
  pub accepted : List Request
  pub state : State

-- the state with one request more, whose change made this graph: the count is one higher, and its session's last ticket is the request's
abbrev pub one_more : State → Request → Network → State
one_more state r graph = state_with (state.count + 1) graph (raise state.tickets (asked_by r))

-- a request is accepted as the change of that count, and then others are settled
abbrev pub accept : Request → ℕ → Settled → Settled
accept r count rest = record {
  marks = record { session = r.session; ticket = r.ticket; verdict = Accepted count } ∷ rest.marks;
  accepted = r ∷ rest.accepted;
  state = rest.state;
}

-- a request is refused at one of its ops, and then others are settled
abbrev pub refuse : Request → ℕ × Code → Settled → Settled
refuse r at rest = record {
  marks = record { session = r.session; ticket = r.ticket; verdict = Refused at.0 at.1 } ∷ rest.marks;
  accepted = rest.accepted;
  state = rest.state;
}

-- the requests in order: a change that the graph takes is in it for all later ones, and of a request that is refused nothing stays
abbrev pub settle : State → List Request → Settled
settle state [] = record { marks = []; accepted = []; state = state }
settle state (r ∷ rs) = elim (graph_after state.graph r.change) [
  | Ok graph ↦ accept r (state.count + 1) (settle (one_more state r graph) rs)
  | Err at ↦ refuse r at (settle state rs)
]

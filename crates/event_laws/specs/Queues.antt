-- What replies say of the queue: the requests that were let in, and those that were taken.
use Rattle.std.specs.Prelude.{ℕ, List, [], ◌∷◌, ◌++◌}
use Rattle.std.specs.List.{flat_map}
use Rattle.requests.specs.declared.request.Request.{Request}
use Rattle.event_model.specs.declared.event.Event.{Event}
use Rattle.event_model.specs.declared.event.Event.TheVariants.{Submit}
use Rattle.event_model.specs.declared.reply.Reply.{Reply}
use Rattle.event_model.specs.declared.reply.Reply.TheVariants.{Submitted, Taken}

-- the request of an event, where the reply says that it waits
abbrev pub let_in_by : Event → Reply → List Request
let_in_by (Submit session ticket change) (Submitted under) = record { session = session; ticket = ticket; change = change } ∷ []
let_in_by event reply = []

-- all that were let in, in the order of the events
abbrev pub all_let_in : List Event → List Reply → List Request
all_let_in (event ∷ events) (reply ∷ replies) = let_in_by event reply ++ all_let_in events replies
all_let_in events replies = []

-- the session and ticket of a request that the reply says was taken
abbrev pub taken_by : Reply → List (ℕ × ℕ)
taken_by (Taken session ticket) = (session, ticket) ∷ []
taken_by reply = []

-- all that were taken, in the order of the replies
abbrev pub all_taken : List Reply → List (ℕ × ℕ)
all_taken replies = flat_map taken_by replies

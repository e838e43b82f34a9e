-- The last tickets that a checkpoint of layout 2 holds, and requests in turn.
use Rattle.std.specs.Prelude.{◌≡◌, ◌<◌, ◌≤◌, ℕ, List, length, map}
use Rattle.std.specs.Int.{w64, to_be_bytes}
use Rattle.std.specs.List.{flat_map, AllByRecursion}
use Rattle.requests.specs.Tickets.{sessions, worn_limit, last_of, Rises}
use Rattle.requests.specs.Requests.{asked_by}
use Rattle.layout_2.specs.Records.{Entry}

-- under which session and ticket requests ask
abbrev pub asked : List Entry → List (ℕ × ℕ)
asked requests = map asked_by requests

-- the session is there, and the ticket is above its last one and within the limit
abbrev pub IsNext : List ℕ → Entry → Type 0
IsNext tickets request = (request.session < sessions) × (last_of tickets request.session < request.ticket) × (request.ticket ≤ worn_limit)

-- so it is of each of these requests, after those before it
abbrev pub AreInTurn : List ℕ → List Entry → Type 0
AreInTurn tickets requests = Rises tickets (asked requests) × AllByRecursion (λ r. r.ticket ≤ worn_limit) requests

-- a last ticket for each session, within the limit
pub record AreTickets (tickets : List ℕ) : Type 0 where
  pub wide : length tickets ≡ sessions
  pub fit : AllByRecursion (λ ticket. ticket ≤ worn_limit) tickets

-- the last tickets of sessions 0 on
abbrev pub tickets_text : List ℕ → List ℕ
tickets_text tickets = flat_map (to_be_bytes w64) tickets

-- What the event machine holds, as plain data.
use Rattle.std.specs.Prelude.{ℕ, List, [], ◌∷◌, ◌++◌, take, drop, replicate, slice_set, Bool, true, Option, Some, None}
use Rattle.requests.specs.declared.request.Request.{Request}
use Rattle.layout_2.specs.State.{State}
use Rattle.generations.specs.declared.posting.Notice.{Notice}
use Rattle.generations.specs.declared.posting.Notice.TheVariants.{Marked, Failed}
use Rattle.generations.specs.Boards.{BoardState, board_of}
use Rattle.group_commit.specs.Settling.{Settled, settle}
use Rattle.event_model.specs.declared.session.Session.{Session}
use Rattle.event_model.specs.Trips.{Trip}

-- All that the event machine holds.
pub record Machine : Type 0 where
  -- each session's last ticket and the count, as they were opened
  pub starts : List ℕ
  pub start : ℕ
  -- how many requests the queue holds at most
  pub capacity : ℕ
  -- each session: how many postings it has seen, and the last ticket that it submitted
  pub sessions : List Session
  -- all requests that were let in, in order; the first `taken` of them left the queue, and the first `done` of these are settled
  pub asked : List Request
  pub taken : ℕ
  pub done : ℕ
  -- the groups that were given to a commit, each from one place of the requests up to another
  pub groups : List (ℕ × ℕ)
  -- what was posted, and what is due
  pub postings : List Notice
  pub due : Option Notice
  -- the store's state, and whether the store is down
  pub state : State
  pub down : Bool
  -- how many postings the forwarder has seen, and each packet's way
  pub seen : ℕ
  pub ways : List Trip

-- a session that has seen and asked for nothing
abbrev pub fresh_session : Session
fresh_session = record { seen = 0; last = None }

-- at the beginning of a life that opened to a state
abbrev pub begun : ℕ → ℕ → State → Bool → Machine
begun capacity sessions state down = record {
  starts = state.tickets;
  start = state.count;
  capacity = capacity;
  sessions = replicate sessions fresh_session;
  asked = [];
  taken = 0;
  done = 0;
  groups = [];
  postings = [];
  due = None;
  state = state;
  down = down;
  seen = 0;
  ways = [];
}

-- the requests that the desk holds
abbrev pub held : Machine → List Request
held m = drop m.done (take m.taken m.asked)

-- the requests that wait in the queue
abbrev pub waiting : Machine → List Request
waiting m = drop m.taken m.asked

-- what becomes of the requests that are held
abbrev pub settling : Machine → Settled
settling m = settle m.state (held m)

-- the board after the first k postings
abbrev pub board_at : Machine → ℕ → BoardState
board_at m k = board_of m.starts m.start (take k m.postings)

-- ---- how it goes on

-- a session, which is now this, was let in with a request
abbrev pub let_in : Machine → Session → Request → Machine
let_in m session r = record m { sessions = slice_set m.sessions r.session session; asked = m.asked ++ r ∷ [] }

-- a session is now this
abbrev pub with_session : Machine → ℕ → Session → Machine
with_session m s session = record m { sessions = slice_set m.sessions s session }

-- the forwarder has seen so many postings
abbrev pub with_seen : Machine → ℕ → Machine
with_seen m seen = record m { seen = seen }

-- one posting more
abbrev pub with_posted : Machine → Notice → Machine
with_posted m notice = record m { postings = m.postings ++ notice ∷ [] }

-- what is held was given to a commit as one group
abbrev pub grouped : Machine → Machine
grouped m = record m { groups = m.groups ++ (m.done, m.taken) ∷ [] }

-- the commit was answered Ok: the group is settled, and its marks are due
abbrev pub committed : Machine → Machine
committed m = record (grouped m) { done = m.taken; due = Some (Marked (settling m).marks); state = (settling m).state }

-- the device failed in it: that is due, and the group stays held
abbrev pub lost : Machine → Machine
lost m = record (grouped m) { due = Some Failed; down = true }

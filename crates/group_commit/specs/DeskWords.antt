-- A desk, as the crates above see it.
use Rattle.std.specs.Prelude.{◌≢◌, ◌⊎◌, ◌<◌, ℕ, List, [], Option}
use Rattle.requests.specs.declared.request.Request.{Request}
use Rattle.requests.specs.Tickets.{tickets_after}
use Rattle.checkpoint.specs.declared.store.Store.{Store}
use Rattle.layout_2.specs.Layout.{worn_limit}
use Rattle.layout_2.specs.State.{asked, IsNext}
use Rattle.checkpoint.specs.StoreWords.{state_of, LacksRoomFor, IsWornOut}
use Rattle.generations.specs.declared.posting.Posting.{Posting}
use Rattle.group_commit.specs.declared.desk.Desk.{Desk}
use Rattle.group_commit.specs.Settling.{Settled, settle}

-- its store
abbrev pub store_of : {D : Type 0} {V : _} → Desk D V → Store D V
store_of desk = desk.store

-- the requests that it holds, in order
abbrev pub held_of : {D : Type 0} {V : _} → Desk D V → List Request
held_of desk = desk.held.items

-- what it has to tell
abbrev pub due_of : {D : Type 0} {V : _} → Desk D V → Option Posting
due_of desk = desk.due

-- each session's last ticket, with those of the requests that it holds
abbrev pub tickets_of : {D : Type 0} {V : _} → Desk D V → List ℕ
tickets_of desk = tickets_after (state_of desk.store).tickets (asked desk.held.items)

-- The request may be given: its session is there, and its ticket is above that session's last one, in the store or held, and within the limit.
abbrev pub IsNextHere : {D : Type 0} {V : _} → Desk D V → Request → Type 0
IsNextHere desk request = IsNext (tickets_of desk) request

-- what becomes of the requests that it holds, from where its store stands
abbrev pub settled_of : {D : Type 0} {V : _} → Desk D V → Settled
settled_of desk = settle (state_of desk.store) desk.held.items

-- Its group is past a limit: something is accepted, and the count would pass the limit, or a roll is needed and the epoch stands there.
abbrev pub IsPastLimits : {D : Type 0} {V : _} → Desk D V → Type 0
IsPastLimits desk = ((settled_of desk).accepted ≢ []) × ((worn_limit < (settled_of desk).state.count) ⊎ (LacksRoomFor desk.store (settled_of desk).accepted × IsWornOut desk.store))

-- A committer, as the crates above see it.
use Rattle.std.specs.Prelude.{ℕ, ◌++◌, List, length, drop, Option}
use Rattle.atomic_table.specs.Seated.{TableId}
use Rattle.checkpoint.specs.declared.store.Store.{Store}
use Rattle.checkpoint.specs.StoreWords.{state_of}
use Rattle.requests.specs.declared.request.Request.{Request}
use Rattle.layout_2.specs.State.{State}
use Rattle.intake.specs.Ends.{Taking}
use Rattle.group_commit.specs.DeskWords as desk
use Rattle.group_commit.specs.declared.desk.Desk.{Desk}
use Rattle.group_commit.specs.Settling.{Settled, settle}
use Rattle.committer.specs.declared.committer.Committer.{Committer}
use Rattle.committer.specs.Outboxes.{Outgoing}

-- its desk
abbrev pub desk_of : {D R : Type 0} {V : _} → Committer D R V → Desk D V
desk_of c = c.desk

-- the state from which it began
abbrev pub begun_of : {D R : Type 0} {V : _} → Committer D R V → State
begun_of c = state_of c.begun.value

-- its store
abbrev pub store_of : {D R : Type 0} {V : _} → Committer D R V → Store D V
store_of c = desk.store_of c.desk

-- the requests that it holds
abbrev pub held_of : {D R : Type 0} {V : _} → Committer D R V → List Request
held_of c = desk.held_of c.desk

-- its end of the queue
abbrev pub taker_of : {D R : Type 0} {V : _} → Committer D R V → Taking
taker_of c = c.taker

-- its queue
abbrev pub queue_of : {D R : Type 0} {V : _} → Committer D R V → TableId
queue_of c = c.taker.queue

-- all requests that it took, in order
abbrev pub got_of : {D R : Type 0} {V : _} → Committer D R V → List Request
got_of c = c.taker.got

-- how often it found the queue empty
abbrev pub empties_of : {D R : Type 0} {V : _} → Committer D R V → ℕ
empties_of c = c.taker.empties

-- what is posted, and what is due
abbrev pub posts_of : {D R : Type 0} {V : _} → Committer D R V → Outgoing
posts_of c = c.outbox

-- the number of the newest generation that is posted or due
abbrev pub newest_of : {D R : Type 0} {V : _} → Committer D R V → Option ℕ
newest_of c = c.newest

-- the requests that were taken between two moments
abbrev pub taken : {D R : Type 0} {V : _} → Committer D R V → Committer D R V → List Request
taken old new = drop (length (got_of old)) (got_of new)

-- the requests that were held or taken
abbrev pub held_or_taken : {D R : Type 0} {V : _} → Committer D R V → Committer D R V → List Request
held_or_taken old new = held_of old ++ taken old new

-- what becomes of these, from where the store stood
abbrev pub settled : {D R : Type 0} {V : _} → Committer D R V → Committer D R V → Settled
settled old new = settle (state_of (store_of old)) (held_or_taken old new)

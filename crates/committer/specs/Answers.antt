-- What a committer's calls answer, and what they leave.
use Rattle.std.specs.Prelude.{ℕ, ◌≡◌, ◌≢◌, ◌⊎◌, ◌++◌, ◌<◌, ◌≤◌, List, [], length, drop, Option, None, Result, IfSome, IsErrOf, IsTrue, true, false}
use Rattle.disk_trait.specs.declared.disk.Disk.{Ghosts}
use Rattle.disk_trait.specs.Disk.{IsSameDevice, LeavesOnly}
use Rattle.requests.specs.declared.request.Request.{Request}
use Rattle.layout_2.specs.Standing.{StandsFor}
use Rattle.checkpoint.specs.declared.store.Store.{Store}
use Rattle.checkpoint.specs.StoreWords.{state_of, nodes_of, view_of, is_down}
use Rattle.generations.specs.declared.posting.Notice.{Notice}
use Rattle.generations.specs.declared.posting.Notice.TheVariants.{Marked, Failed}
use Rattle.intake.specs.Ends.{Taking, HasTaken}
use Rattle.group_commit.specs.DeskWords.{IsPastLimits}
use Rattle.group_commit.specs.Limits.{most_held}
use Rattle.group_commit.specs.Settling.{Settled, settle}
use Rattle.committer.specs.declared.committer.Committer.{Committer}
use Rattle.committer.specs.declared.refused.RoundRefused.{RoundRefused}
use Rattle.committer.specs.declared.refused.RoundRefused.TheVariants.{Board}
use Rattle.committer.specs.Outboxes.{Outgoing, all_of, paid, with_posted, with_due}
use Rattle.committer.specs.Rounds.{with_marks_of, TellsUpTo}
use Rattle.committer.specs.Crashes.{LeavesGroupWhole}
use Rattle.committer.specs.CommitterWords.{begun_of, desk_of, store_of, held_of, taker_of, got_of, empties_of, posts_of, held_or_taken}
use Rattle.committer.specs.Listed.{StaysListed}
use Rattle.committer.specs.Rebuilds.{IsBuilt, IsNumbered, IsOwed, IsServed}

-- ---- what is taken

-- Requests were taken from the front of the queue, and none where a group was held.
pub record Takes (held : List Request) (old new : Taking) : Type 0 where
  pub front : new.got ≡ old.got ++ drop (length old.got) new.got
  pub few : length (drop (length old.got) new.got) ≤ most_held
  pub queue : new.queue ≡ old.queue
  pub held_first : held ≢ [] → drop (length old.got) new.got ≡ []
  -- where the queue was found empty, all was taken that the editor submitted that was ended last
  pub taken : HasTaken old new

-- a round stopped before it took: the device had failed, or what was due is due still
abbrev pub StoppedBefore : {D R X : Type 0} {V : _} → Committer D R V → Committer D R V → Result X RoundRefused → Type 0
StoppedBefore old new result =
    (is_down (store_of old) ≡ true) ⊎ (((posts_of old).due ≢ []) × (IsErrOf result Board × (posts_of new ≡ posts_of old)))

-- a round took fewer than it may: a group was held, it found the queue empty, or it stopped before
abbrev pub MayTakeFewer : {D R X : Type 0} {V : _} → Committer D R V → Committer D R V → Result X RoundRefused → Type 0
MayTakeFewer old new result = (held_of old ≢ []) ⊎ ((empties_of old < empties_of new) ⊎ StoppedBefore old new result)

-- nothing was taken or committed
pub record StaysPut {D R : Type 0} {V : _} (old new : Committer D R V) : Type 0 where
  pub store : store_of new ≡ store_of old
  pub held : held_of new ≡ held_of old
  pub taker : taker_of new ≡ taker_of old
  -- it is the same committer
  pub begun : begun_of new ≡ begun_of old

-- ---- what becomes of a group

-- A group of requests, what is posted before its marks, and the store in whose state it is settled.
pub record Group (D : Type 0) (V : Ghosts D) : Type 0 where
  pub requests : List Request
  pub before : Outgoing
  pub store : Store D V

-- what is held
abbrev pub held_group : {D R : Type 0} {V : _} → Committer D R V → Group D V
held_group c = record { requests = held_of c; before = posts_of c; store = store_of c }

-- what a round held or took, behind what was due
abbrev pub asked_group : {D R : Type 0} {V : _} → Committer D R V → Committer D R V → Group D V
asked_group old new = record { requests = held_or_taken old new; before = paid (posts_of old); store = store_of old }

-- what becomes of a group
abbrev pub settled_group : {D : Type 0} {V : _} → Group D V → Settled
settled_group group = settle (state_of group.store) group.requests

-- it is committed: the store has the state after it, and just its marks are posted
pub record HasCommitted {D R : Type 0} {V : _} (group : Group D V) (new : Committer D R V) (accepted : ℕ) : Type 0 where
  pub number : accepted ≡ length (settled_group group).accepted
  pub state : state_of (store_of new) ≡ (settled_group group).state
  pub held : held_of new ≡ []
  pub posts : posts_of new ≡ with_marks_of group.requests (settled_group group).marks group.before

-- it is committed, and just its marks are due
pub record OwesMarks {D R : Type 0} {V : _} (group : Group D V) (new : Committer D R V) : Type 0 where
  pub state : state_of (store_of new) ≡ (settled_group group).state
  pub held : held_of new ≡ []
  pub posts : posts_of new ≡ with_due group.before (Marked (settled_group group).marks)

-- it stays held, and nothing of it is on the device
pub record KeepsGroup {D R : Type 0} {V : _} (group : Group D V) (new : Committer D R V) : Type 0 where
  pub state : state_of (store_of new) ≡ state_of group.store
  pub held : held_of new ≡ group.requests
  pub posts : posts_of new ≡ group.before
  -- a crash at any moment leaves the old state alone
  pub alone : IsTrue (view_of group.store).keeps_model → is_down group.store ≡ false
      → LeavesOnly (view_of group.store) (view_of (store_of new)) (StandsFor (state_of group.store))

-- it stays held as numbers have run out, and nothing is written
pub record IsWorn {D R : Type 0} {V : _} (group : Group D V) (new : Committer D R V) : Type 0 where
  pub store : store_of new ≡ group.store
  pub limits : IsPastLimits (desk_of new)

-- it stays held as the device failed, and that it failed is posted or due
pub record LosesDevice {D R : Type 0} {V : _} (group : Group D V) (new : Committer D R V) : Type 0 where
  pub state : state_of (store_of new) ≡ state_of group.store
  pub held : held_of new ≡ group.requests
  pub down : is_down (store_of new) ≡ true
  pub failed : (view_of group.store).failures < (view_of (store_of new)).failures
  pub posts : (posts_of new ≡ with_posted group.before Failed) ⊎ (posts_of new ≡ with_due group.before Failed)

-- a crash at any moment of the call leaves the old state, or the one after the whole group
abbrev pub LeavesEither : {D R : Type 0} {V : _} → Group D V → Committer D R V → Type 0
LeavesEither group new = IsTrue (view_of group.store).keeps_model → is_down group.store ≡ false
    → LeavesOnly (view_of group.store) (view_of (store_of new)) (λ image. StandsFor (state_of group.store) image ⊎ StandsFor (settled_group group).state image)

-- ---- what else a round answers

-- the device had failed: what was due is posted or stays due, and all else stays
pub record StaysDown {D R : Type 0} {V : _} (old new : Committer D R V) : Type 0 where
  pub store : store_of new ≡ store_of old
  pub held : held_of new ≡ held_of old
  pub got : got_of new ≡ got_of old
  pub posts : (posts_of new ≡ paid (posts_of old)) ⊎ (posts_of new ≡ posts_of old)

-- what was due is due still, and nothing happened
pub record StaysOwed {D R : Type 0} {V : _} (old new : Committer D R V) : Type 0 where
  pub due : (posts_of old).due ≢ []
  pub posts : posts_of new ≡ posts_of old
  pub store : store_of new ≡ store_of old
  pub held : held_of new ≡ held_of old
  pub got : got_of new ≡ got_of old

-- ---- whatever the answer

-- A committer goes on, on the same device.
pub record GoesOn {D R : Type 0} {V : _} (old new : Committer D R V) : Type 0 where
  pub nodes : nodes_of (store_of new) ≡ nodes_of (store_of old)
  pub ran : IsSameDevice (view_of (store_of old)) (view_of (store_of new))
  pub begun : begun_of new ≡ begun_of old
  -- what was taken stays one list, and what is posted and due goes with it
  pub listed : StaysListed old new

-- What holds of a committer between two calls.
pub record IsAtRest {D R : Type 0} {V : _} (now : Committer D R V) : Type 0 where
  -- a crash leaves the store's state, or the one with the whole group that is held, after a failure of the device too
  pub whole : IsTrue (view_of (store_of now)).keeps_model → LeavesGroupWhole (store_of now) (held_of now)
  -- no posted count is above the store's, so each image has all that was told
  pub tells : TellsUpTo (state_of (store_of now)).count (posts_of now).posted

-- ---- generations

-- What is due was posted, and behind it the number of a generation is due, or the newest one has it.
pub record FindsDue {D R : Type 0} {V : _} (old new : Committer D R V) (due : Option ℕ) : Type 0 where
  pub up : is_down (store_of old) ≡ false
  pub posts : posts_of new ≡ paid (posts_of old)
  pub nothing_due : (posts_of new).due ≡ []
  pub number : IfSome due (λ number. number ≡ (state_of (store_of old)).count)
  pub news : IfSome due (λ number. ¬ (IsNumbered number (all_of (posts_of new))))
  pub old_news : IfSome due (λ number. ¬ (IsNumbered number (all_of (posts_of old))))
  pub serves : due ≡ None → IsServed (state_of (store_of old)) (posts_of new).posted

-- The newest generation is the store's: it was there, or it was built by these words and posted.
pub record HasRebuilt {D R : Type 0} {V : _} (words : List ℕ) (old new : Committer D R V) (answer : ℕ) : Type 0 where
  pub number : answer ≡ (state_of (store_of old)).count
  pub serves : IsServed (state_of (store_of old)) (posts_of new).posted
  pub posts : (posts_of new ≡ paid (posts_of old)) ⊎ IsBuilt words (state_of (store_of old)) (posts_of old) (posts_of new)
  pub no_news : IsNumbered (state_of (store_of old)).count (all_of (posts_of old)) → posts_of new ≡ paid (posts_of old)

-- Memory ran out for a generation whose number is new: what was due is posted.
pub record LacksScheme {D R : Type 0} {V : _} (old new : Committer D R V) : Type 0 where
  pub posts : posts_of new ≡ paid (posts_of old)
  pub news : ¬ (IsNumbered (state_of (store_of old)).count (all_of (posts_of old)))

-- The board took no posting: what was due is due still, or a generation is due, or it was dropped.
abbrev pub IsNotTaken : {D R : Type 0} {V : _} → List ℕ → Committer D R V → Committer D R V → Type 0
IsNotTaken words old new = (((posts_of old).due ≢ []) × (posts_of new ≡ posts_of old))
    ⊎ ((posts_of new ≡ paid (posts_of old)) ⊎ IsOwed words (state_of (store_of old)) (posts_of old) (posts_of new))

-- a generation is due, or it was dropped
abbrev pub IsDueOrDropped : {D R : Type 0} {V : _} → Notice → Committer D R V → Committer D R V → Type 0
IsDueOrDropped built old new = (posts_of new ≡ posts_of old) ⊎ (posts_of new ≡ with_due (posts_of old) built)

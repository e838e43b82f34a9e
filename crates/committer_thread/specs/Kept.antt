-- What a service leaves on its device, whatever ends it.
use Rattle.std.specs.Prelude.{◌≡◌, ◌≢◌, ◌++◌, ◌⊎◌, ◌<◌, ◌≤◌, ℕ, List, [], length, take, IfErr, IfSome, IsErrOf, IsTrue, OnOk, Option, Result, false}
use Rattle.disk_trait.specs.declared.disk.Disk.{Ghosts}
use Rattle.disk_trait.specs.Disk.{DiskView, IsSameDevice, LeavesOnly}
use Rattle.requests.specs.declared.request.Request.{Request}
use Rattle.layout_2.specs.State.{State}
use Rattle.layout_2.specs.Standing.{KeepsThrough, StandsFor}
use Rattle.checkpoint.specs.declared.store.Store.{Store}
use Rattle.checkpoint.specs.StoreWords.{state_of, view_of, is_down}
use Rattle.generations.specs.Beginnings.{Opening}
use Rattle.group_commit.specs.Settling.{settle}
use Rattle.committer.specs.declared.committer.Committer.{Committer}
use Rattle.service_actors.specs.declared.stop_cause.StopCause.{StopCause}
use Rattle.service_actors.specs.declared.stop_cause.StopCause.TheVariants.{Device}
use Rattle.request_lists.specs.declared.builds.Builds.{Builds}
use Rattle.request_lists.specs.Posted.{ArePosted}
use Rattle.intake.specs.Turns.{AreOfEditors}
use Rattle.committer.specs.CommitterWords.{begun_of, store_of, held_of, taker_of, queue_of, got_of, posts_of, taken, settled}
use Rattle.committer.specs.Answers.{StaysPut}
use Rattle.committer.specs.Listed.{IsListedFrom, StaysListed, StaysListedSo}

-- the image stands for the state after a beginning of these requests, settled from a state on
abbrev pub StandsForBeginning : State → List Request → List ℕ → Type 0
StandsForBeginning first requests image = (many : ℕ) × (many ≤ length requests) × StandsFor (settle first (take many requests)).state image

-- From one view of a disk to another, these requests were settled on it: it is the same device, and a crash at any moment leaves the
-- state after a beginning of them.
pub record HasSettled (first : State) (requests : List Request) (old new : DiskView) : Type 0 where
  pub same : IsSameDevice old new
  pub any_moment : IsTrue old.keeps_model → LeavesOnly old new (StandsForBeginning first requests)

-- the same of some requests
abbrev pub HasSettledSome : State → DiskView → DiskView → Type 0
HasSettledSome first old new = (requests : List Request) × HasSettled first requests old new

-- The queue stays, with its editors: where all that was taken is of sessions that have one, it still is.
pub record KeepsQueue {D R : Type 0} {V : _} (old new : Committer D R V) : Type 0 where
  pub queue : queue_of new ≡ queue_of old
  pub made : (taker_of new).made ≡ (taker_of old).made
  pub editors : AreOfEditors (taker_of old).made (got_of old) → AreOfEditors (taker_of new).made (got_of new)

-- A turn took requests from the queue: it is the same device, and a crash at any moment of it leaves the state before the turn or the
-- one after the whole group.
pub record HasTurned {D R : Type 0} {V : _} (old new : Committer D R V) : Type 0 where
  pub front : got_of new ≡ got_of old ++ taken old new
  pub same : IsSameDevice (view_of (store_of old)) (view_of (store_of new))
  pub begun : begun_of new ≡ begun_of old
  pub any_moment : IsTrue (view_of (store_of old)).keeps_model → is_down (store_of old) ≡ false
      → LeavesOnly (view_of (store_of old)) (view_of (store_of new)) (λ image. StandsFor (state_of (store_of old)) image ⊎ StandsFor (settled old new).state image)

-- and settled all of them
pub record HasSettledAll {D R : Type 0} {V : _} (old new : Committer D R V) : Type 0 where
  pub held : held_of new ≡ []
  pub state : state_of (store_of new) ≡ (settled old new).state
  pub up : is_down (store_of new) ≡ false

-- The marks on the board are those of settling the first of all that was taken, and each generation on it serves the state that its
-- number names, from any state on from which what was taken before was one list.
abbrev pub PostsAlong : {D R : Type 0} {V : _} → Builds → Committer D R V → Committer D R V → Type 0
PostsAlong builds old new = (first : State) → IsListedFrom builds first old → ArePosted builds first (got_of new) (posts_of new).posted

-- the device failed between two views
abbrev pub HasFailed : DiskView → DiskView → Type 0
HasFailed old new = old.failures < new.failures

-- what a committer settled of what it took, from its beginning on
abbrev pub HasSettledFrom : {D R : Type 0} {V : _} → Committer D R V → Committer D R V → Type 0
HasSettledFrom first now = HasSettled (state_of (store_of first)) (got_of now) (view_of (store_of first)) (view_of (store_of now))

-- the device failed under a committer
abbrev pub HasLostDevice : {D R : Type 0} {V : _} → Committer D R V → Committer D R V → Type 0
HasLostDevice old new = HasFailed (view_of (store_of old)) (view_of (store_of new))

-- A generation was built and posted on this board, or that was refused: nothing was taken or committed.
pub record OnlyRebuilds {D R T : Type 0} {V : _} (board : Opening) (old new : Committer D R V) (result : Result T StopCause) : Type 0 where
  pub opening : OnOk result ((posts_of new).opening ≡ board)
  pub stays : StaysPut old new
  pub listed : StaysListed old new
  pub not_device : IfErr result (λ cause. cause ≢ Device)

-- a committer at its beginning
pub record IsFresh {D R : Type 0} {V : _} (c : Committer D R V) : Type 0 where
  pub up : is_down (store_of c) ≡ false
  pub held : held_of c ≡ []
  pub got : got_of c ≡ []

-- From its beginning on a committer settled all that it took, and its generations were built so.
pub record IsOnCourse {D R : Type 0} {V : _} (builds : Builds) (first now : Committer D R V) : Type 0 where
  pub up : is_down (store_of now) ≡ false
  pub held : held_of now ≡ []
  pub state : state_of (store_of now) ≡ (settle (state_of (store_of first)) (got_of now)).state
  pub settled : HasSettled (state_of (store_of first)) (got_of now) (view_of (store_of first)) (view_of (store_of now))
  -- what is posted and due goes with all that it took, as it did at the beginning
  pub listed : StaysListedSo builds first now
  -- each image that a crash now may leave stands for the state after the whole list
  pub stands : IsTrue (view_of (store_of now)).keeps_model → KeepsThrough (view_of (store_of now)) (settle (state_of (store_of first)) (got_of now)).state

-- What a service's thread leaves of the disk that a store was on: requests were settled on it, and it failed where that is the cause.
pub record IsServedDisk {D T : Type 0} {V : _} (store : Store D V) (result : Result T StopCause) (new : DiskView) : Type 0 where
  pub settled : HasSettledSome (state_of store) (view_of store) new
  pub device : IsErrOf result Device → HasFailed (view_of store) new

-- for some requests, a crash at any moment from one view to the other leaves the state after a beginning of them
abbrev pub LeavesBeginnings : State → DiskView → DiskView → Type 0
LeavesBeginnings first old new = (requests : List Request) × LeavesOnly old new (StandsForBeginning first requests)

-- What a service leaves of its device, where that comes back: it is the very device, and if a crash left the state before the service, then
-- one at any moment of it leaves the state after a beginning of the requests that it took.
pub record IsLeftBy {D : Type 0} (model : Ghosts D) (disk : D) (back : Option D) : Type 0 where
  pub ran : IfSome back (λ d. IsSameDevice (model.view disk) (model.view d))
  pub any_moment : IsTrue (model.view disk).keeps_model → (state : State) → StandsFor state (model.view disk).content
      → KeepsThrough (model.view disk) state → IfSome back (λ d. LeavesBeginnings state (model.view disk) (model.view d))

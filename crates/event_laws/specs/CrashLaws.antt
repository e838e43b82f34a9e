-- What histories and runs are good for.
use Rattle.std.specs.Prelude.{◌≡◌, ◌≤◌, ◌+◌, ◌-◌, ◌++◌, ℕ, List, [], ◌∷◌, take, Some}
use Rattle.disk_trait.specs.Disk.{DiskView, MayLeave, Unchanged}
use Rattle.requests.specs.declared.request.Request.{Request}
use Rattle.layout_2.specs.State.{State, after}
use Rattle.layout_2.specs.Standing.{StandsFor}
use Rattle.group_commit.specs.Settling.{settle}
use Rattle.event_laws.specs.History.{Lists, lists_begun, state_at}
use Rattle.event_laws.specs.Happenings.{Happens}
use Rattle.event_laws.specs.Runs.{moment_of, IsRun}

-- a life begins as a run where each image that a crash may leave stands for what was opened
abbrev pub Begins : {D : Type 0} → (D → DiskView) → Type 0
Begins {D} view = (first : State) (disk : D) → ((image : List ℕ) → MayLeave (view disk) image → StandsFor first image) → IsRun first (view disk) (lists_begun first) []

-- it goes on by each happening, with one moment more
abbrev pub GoesOn : {D : Type 0} → (D → DiskView) → Type 0
GoesOn {D} view = (first : State) (old new : D) (a b : Lists) (number : ℕ) (moments : List (ℕ × ℕ))
    → IsRun first (view old) a moments → Happens (view old) (view new) a b number → IsRun first (view new) b (moments ++ moment_of (view new) b ∷ [])

-- .. at which the clock hasn't fallen, and the count is higher by the number that was answered Ok for
abbrev pub MomentsRise : {D : Type 0} → (D → DiskView) → Type 0
MomentsRise {D} view = (old new : D) (a b : Lists) (number : ℕ) → Happens (view old) (view new) a b number
    → ((view old).clock ≤ (view new).clock) × (b.state.count ≡ a.state.count + number)

-- it is one still where the disk stays as it is seen
abbrev pub StaysRun : {D : Type 0} → (D → DiskView) → Type 0
StaysRun {D} view = (first : State) (old new : D) (lists : Lists) (moments : List (ℕ × ℕ)) → IsRun first (view old) lists moments → Unchanged (view old) (view new) → IsRun first (view new) lists moments

-- now may be one of its moments too
abbrev pub NowCounts : {D : Type 0} → (D → DiskView) → Type 0
NowCounts {D} view = (first : State) (disk : D) (lists : Lists) (moments : List (ℕ × ℕ)) → IsRun first (view disk) lists moments → IsRun first (view disk) lists (moments ++ moment_of (view disk) lists ∷ [])

-- the state after some of the requests is that after the first of the accepted changes, as many as its count has risen by
abbrev pub IsAfterFirst : Type 0
IsAfterFirst = (first : State) (taken : List Request) (at : ℕ)
    → after first (take ((state_at first taken at).count - first.count) (settle first taken).accepted) ≡ Some (state_at first taken at)

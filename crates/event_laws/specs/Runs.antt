-- Runs: what a crash may leave at each moment.
use Rattle.std.specs.Prelude.{◌≤◌, ℕ, List}
use Rattle.std.specs.List.{AllByRecursion}
use Rattle.disk_trait.specs.Disk.{DiskView}
use Rattle.layout_2.specs.State.{State}
use Rattle.event_laws.specs.History.{Lists, IsPrefixState, IsTied}

-- now, as a moment: the disk's clock, and the count that was answered by then
abbrev pub moment_of : DiskView → Lists → ℕ × ℕ
moment_of disk lists = (disk.clock, lists.state.count)

-- a crash since the clock showed t leaves a prefix state with at least this count
abbrev pub LeavesPrefix : State → DiskView → Lists → ℕ → ℕ → Type 0
LeavesPrefix first disk lists t least = (image : List ℕ) → disk.left_since t image → IsPrefixState first lists least image

-- so it is since each of these moments, with the count that was answered by then
abbrev pub Holds : State → DiskView → Lists → List (ℕ × ℕ) → Type 0
Holds first disk lists moments = AllByRecursion (λ m. (m.0 ≤ disk.clock) × (m.1 ≤ lists.state.count) × LeavesPrefix first disk lists m.0 m.1) moments

-- what a life that opened to `first` keeps over its moments: a crash since any of them, or now, leaves a prefix state with all that
-- a commit had answered Ok for by then
pub record IsRun (first : State) (disk : DiskView) (lists : Lists) (moments : List (ℕ × ℕ)) : Type 0 where
  pub tied : IsTied first lists
  pub now : LeavesPrefix first disk lists disk.clock lists.state.count
  pub holds : Holds first disk lists moments

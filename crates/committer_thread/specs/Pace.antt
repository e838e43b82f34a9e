-- When a generation is due.
use Rattle.std.specs.Prelude.{◌≡◌, ◌≢◌, ◌⊎◌, ◌≤◌, ℕ, [], Option, None, Some}
use Rattle.checkpoint.specs.StoreWords.{state_of}
use Rattle.request_lists.specs.declared.builds.Builds.{Builds}
use Rattle.request_lists.specs.declared.builds.Builds.TheVariants.{InTurn, Beside}
use Rattle.service_actors.specs.Stands.{HasNewest}
use Rattle.committer.specs.declared.committer.Committer.{Committer}
use Rattle.committer.specs.CommitterWords.{posts_of, store_of}

-- A generation is due behind a round that took so many requests: the newest one lacks a change, and nothing was taken, or there were so many
-- rounds since the first change that it lacks.
pub record IsDue (newest : Option ℕ) (count taken owed rounds : ℕ) : Type 0 where
  pub behind : newest ≢ Some count
  pub now : (taken ≡ 0) ⊎ (rounds ≤ owed)

-- all is posted, and this is the number of the newest generation on the board, where there is one
pub record IsShown {D R : Type 0} {V : _} (number : Option ℕ) (c : Committer D R V) : Type 0 where
  pub nothing_due : (posts_of c).due ≡ []
  pub newest : HasNewest (record { opening = (posts_of c).opening; log = (posts_of c).posted }) number

-- the newest generation on the board is that of the store's state
abbrev pub IsUpToDate : {D R : Type 0} {V : _} → Committer D R V → Type 0
IsUpToDate c = IsShown (Some (state_of (store_of c)).count) c

-- how the board stands at the beginning: where builds go in turn its newest generation is that of the store's state, and else it has none
abbrev pub IsBegun : {D R : Type 0} {V : _} → Builds → Committer D R V → Type 0
IsBegun InTurn c = IsUpToDate c
IsBegun Beside c = IsShown None c

-- What stands on a board of one list of requests.
use Rattle.std.specs.Prelude.{◌≡◌, ◌≤◌, ℕ, List, length, take}
use Rattle.requests.specs.declared.request.Request.{Request}
use Rattle.layout_2.specs.State.{State}
use Rattle.generations.specs.declared.posting.Notice.{Notice}
use Rattle.generations.specs.Notices.{marks_in}
use Rattle.generations.specs.Lawful.{IsLawful}
use Rattle.group_commit.specs.Settling.{settle}
use Rattle.request_lists.specs.declared.builds.Builds.{Builds}
use Rattle.request_lists.specs.Durable.{AreDurable}

-- Postings of requests that were asked from the state `first` on: their marks are those that settling the first so many gives, they are
-- lawful, and each generation among them serves the state that its number names.
pub record ArePosted (builds : Builds) (first : State) (asked : List Request) (posted : List Notice) : Type 0 where
  pub many : ℕ
  pub within : many ≤ length asked
  pub marks : marks_in posted ≡ (settle first (take many asked)).marks
  pub lawful : IsLawful first.tickets first.count posted
  pub durable : AreDurable builds first asked posted

-- What is acknowledged, and where it is in.
use Rattle.std.specs.Prelude.{◌≡◌, ℕ, List, take, Contains}
use Rattle.requests.specs.declared.request.Request.{Request}
use Rattle.layout_2.specs.State.{State}
use Rattle.generations.specs.declared.posting.Mark.{Mark}
use Rattle.generations.specs.declared.posting.Verdict.TheVariants.{Accepted}
use Rattle.generations.specs.declared.posting.Notice.{Notice}
use Rattle.generations.specs.Notices.{marks_in}
use Rattle.group_commit.specs.Settling.{settle}

-- each Accepted mark in these postings is that of a change of the first `at` requests: the state after these has it
abbrev pub AreAcknowledged : State → List Request → ℕ → List Notice → Type 0
AreAcknowledged first taken at postings = (mark : Mark) (count : ℕ) → mark.verdict ≡ Accepted count → Contains (marks_in postings) mark → Contains (settle first (take at taken)).marks mark

-- What a round posts, and what its posted marks tell of the store.
use Rattle.std.specs.Prelude.{◌≤◌, ℕ, List, [], ◌∷◌}
use Rattle.std.specs.List.{AllByRecursion}
use Rattle.requests.specs.declared.request.Request.{Request}
use Rattle.generations.specs.declared.posting.Mark.{Mark}
use Rattle.generations.specs.declared.posting.Notice.{Notice}
use Rattle.generations.specs.declared.posting.Notice.TheVariants.{Marked}
use Rattle.generations.specs.Notices.{counts_of, marks_in}
use Rattle.committer.specs.Outboxes.{Outgoing, with_posted}

-- with the marks of these requests posted; of no request nothing is
abbrev pub with_marks_of : List Request → List Mark → Outgoing → Outgoing
with_marks_of [] marks o = o
with_marks_of (r ∷ rs) marks o = with_posted o (Marked marks)

-- no Accepted count that was told is above this one
abbrev pub TellsUpTo : ℕ → List Notice → Type 0
TellsUpTo count log = AllByRecursion (λ told. told ≤ count) (counts_of (marks_in log))

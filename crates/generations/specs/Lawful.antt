-- Which lists of notices are lawful.
use Rattle.std.specs.Prelude.{ℕ, ◌≡◌, ◌+◌, List, length, map, slice_get, Some}
use Rattle.std.specs.List.{range_with_len}
use Rattle.std.specs.List.Sorted.{IsStrictlyIncreasing}
use Rattle.requests.specs.Tickets.{Rises}
use Rattle.generations.specs.declared.posting.Notice.{Notice}
use Rattle.generations.specs.declared.posting.Notice.TheVariants.{Failed}
use Rattle.generations.specs.Notices.{told_to, counts_of, marks_in, numbers_in}

-- the counts go on from the start, one by one
abbrev pub AreCounted : ℕ → List ℕ → Type 0
AreCounted start counts = counts ≡ range_with_len (start + 1) (length counts)

-- a lawful list, from where the sessions' tickets and the count begin
pub record IsLawful (starts : List ℕ) (start : ℕ) (log : List Notice) : Type 0 where
  -- each session's tickets rise above its start
  pub tickets : Rises starts (map told_to (marks_in log))
  -- the Accepted counts are start + 1, start + 2 and so on
  pub counts : AreCounted start (counts_of (marks_in log))
  -- the numbers of generations rise
  pub numbers : IsStrictlyIncreasing (numbers_in log)
  -- nothing follows the failure of the device
  pub last : (k : ℕ) → slice_get log k ≡ Some Failed → k + 1 ≡ length log

-- A watcher, as contracts see it.
use Rattle.std.specs.Prelude.{ℕ, ◌≡◌, Option, Some, None}
use Rattle.generations.specs.Beginnings.{Beginning, board_after}
use Rattle.generations.specs.Knowledges.{Knowledge}
use Rattle.generations.specs.Lawful.{IsLawful}
use Rattle.intake.specs.declared.outcome.Standing.{Standing}
use Rattle.intake.specs.declared.outcome.SubmitRefused.{SubmitRefused}
use Rattle.intake.specs.Outcomes.{standing_on, refusal_on}
use Rattle.intake.specs.declared.watcher.Watcher.TheInside.{Inside}

-- what contracts see of a watcher
pub record Watching : Type 0 where
  pub session : ℕ
  -- the last ticket that was submitted
  pub last : Option ℕ
  -- the postings that it saw or was told of
  pub known : Beginning

-- a watcher, by its parts
abbrev pub watching : Inside → Watching
watching w = record { session = w.session; last = w.last; known = w.known }

-- the reader is there, and knows this
abbrev pub HasReader : Beginning → Option Knowledge → Type 0
HasReader known None = ⊥
HasReader known (Some r) = r.all ≡ known

-- its reader is there between two calls, and knows what it knows
abbrev pub IsWatching : Inside → Type 0
IsWatching w = HasReader w.known w.reader

-- these postings keep the law of postings
abbrev pub IsLawfulAfter : Beginning → Type 0
IsLawfulAfter known = IsLawful known.opening.starts known.opening.count known.log

-- what the board after all that it knows says of its last ticket
abbrev pub standing_seen : Watching → Standing
standing_seen w = standing_on (board_after w.known) w.session w.last

-- what refuses a ticket of its session, on the board after this beginning, the queue aside; the session's tickets start here
abbrev pub refusal_seen : Beginning → Watching → ℕ → ℕ → Option SubmitRefused
refusal_seen seen w start ticket = refusal_on (board_after seen) w.session start w.last ticket

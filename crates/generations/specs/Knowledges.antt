-- What a reader saw, and what it knows by that and by what it was told.
use Rattle.std.specs.Prelude.{◌≡◌, ◌<◌, length, Option, Some, None}
use Rattle.generations.specs.Beginnings.{Beginning, GoesOn}

-- what a reader saw, and all that it saw or was told
pub record Knowledge : Type 0 where
  pub seen : Beginning
  pub all : Beginning

-- nothing was told beyond what was seen
abbrev pub all_seen : Beginning → Knowledge
all_seen b = record { seen = b; all = b }

-- what a reader knows that was told this beyond what it saw
abbrev pub known_by : Beginning → Option Beginning → Knowledge
known_by seen None = all_seen seen
known_by seen (Some told) = record { seen = seen; all = told }

-- what was told goes on from what was seen
abbrev pub IsAhead : Beginning → Option Beginning → Type 0
IsAhead seen None = Unit {0}
IsAhead seen (Some told) = GoesOn seen told

-- how the learning of a list changes what is known
pub record Learns (old : Knowledge) (told : Beginning) (new : Knowledge) : Type 0 where
  pub seen : new.seen ≡ old.seen
  pub kept : GoesOn old.all new.all
  pub learnt : GoesOn told new.all

-- more was seen than before, and it ends before what was told
pub record IsBehind (old new : Knowledge) : Type 0 where
  pub seen : GoesOn old.seen new.seen
  pub all : new.all ≡ old.all
  pub short : length new.seen.log < length new.all.log

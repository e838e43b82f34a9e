-- What is posted on a board, and what is still to be posted there.
use Rattle.std.specs.Prelude.{◌≡◌, List, [], ◌∷◌, ◌++◌, Option, Some, None}
use Rattle.generations.specs.declared.posting.Posting.{Posting}
use Rattle.generations.specs.declared.posting.Notice.{Notice}
use Rattle.generations.specs.Notices.{notice_of}
use Rattle.generations.specs.Beginnings.{Opening}
use Rattle.generations.specs.Posts.{Posts}
use Rattle.generations.specs.Lawful.{IsLawful}

-- what contracts see of an outbox: its board, what is posted there, and what is due
pub record Outgoing : Type 0 where
  pub opening : Opening
  pub posted : List Notice
  -- at most one notice
  pub due : List Notice

-- what came back, as a list
abbrev pub back_of : Option Posting → List Notice
back_of None = []
back_of (Some p) = notice_of p ∷ []

-- an outbox, by its writer and what came back
abbrev pub outgoing : Posts → Option Posting → Outgoing
outgoing writer back = record { opening = writer.opening; posted = writer.posted; due = writer.kept ++ back_of back }

-- a posting came back only where nothing is kept, and it would be lawful
abbrev pub IsOutbox : Posts → Option Posting → Type 0
IsOutbox writer None = Unit {0}
IsOutbox writer (Some p) = (writer.kept ≡ []) × IsLawful writer.opening.starts writer.opening.count (writer.posted ++ notice_of p ∷ [])

-- what is posted, and behind it what is due
abbrev pub all_of : Outgoing → List Notice
all_of o = o.posted ++ o.due

-- what was due is posted
abbrev pub paid : Outgoing → Outgoing
paid o = record { opening = o.opening; posted = o.posted ++ o.due; due = [] }

-- one notice more is posted
abbrev pub with_posted : Outgoing → Notice → Outgoing
with_posted o p = record { opening = o.opening; posted = o.posted ++ p ∷ []; due = [] }

-- one notice is due
abbrev pub with_due : Outgoing → Notice → Outgoing
with_due o p = record { opening = o.opening; posted = o.posted; due = p ∷ [] }

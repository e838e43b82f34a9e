-- The entries of a board's book: how the board begins, and then its notices.
use Rattle.std.specs.Prelude.{ℕ, ◌≡◌, ◌<◌, List, [], ◌∷◌, length}
use Rattle.std.specs.List.{flat_map}
use Rattle.logbook.specs.Pages.{Book}
use Rattle.generations.specs.declared.posting.Posting.{Posting}
use Rattle.generations.specs.declared.posting.Notice.{Notice}
use Rattle.generations.specs.declared.posting.Entry.{Entry}
use Rattle.generations.specs.declared.posting.Entry.TheVariants.{Opened, Told}
use Rattle.generations.specs.Notices.{notice_of}
use Rattle.generations.specs.Beginnings.{Opening, Beginning}
use Rattle.generations.specs.Lawful.{IsLawful}

-- the entry of what a posting says
abbrev pub entry_of : Posting → Entry
entry_of posting = Told (notice_of posting)

-- the notices of one entry
abbrev pub told_by : Entry → List Notice
told_by (Opened starts count) = []
told_by (Told notice) = notice ∷ []

-- all notices, in order
abbrev pub notices : List Entry → List Notice
notices log = flat_map told_by log

-- where the sessions' tickets begin, by one entry
abbrev pub starts_by : Entry → List ℕ
starts_by (Opened starts count) = starts
starts_by (Told notice) = []

-- the count at the beginning, by one entry
abbrev pub count_by : Entry → ℕ
count_by (Opened starts count) = count
count_by (Told notice) = 0

-- where the sessions' tickets begin: the first entry says it
abbrev pub starts_of : List Entry → List ℕ
starts_of [] = []
starts_of (entry ∷ log) = starts_by entry

-- the count at the beginning: the first entry says it
abbrev pub count_of : List Entry → ℕ
count_of [] = 0
count_of (entry ∷ log) = count_by entry

-- how a board begins
abbrev pub opening_of : Book → List Entry → Opening
opening_of book log = record { book = book; starts = starts_of log; count = count_of log }

-- the beginning of a board's list that the entries are
abbrev pub beginning : Book → List Entry → Beginning
beginning book log = record { opening = opening_of book log; log = notices log }

-- Entries that were reached: the first one is there, so many notices are behind it, and these are lawful.
pub record IsReached (many : ℕ) (log : List Entry) : Type 0 where
  pub opened : 0 < length log
  pub counted : many ≡ length (notices log)
  pub lawful : IsLawful (starts_of log) (count_of log) (notices log)

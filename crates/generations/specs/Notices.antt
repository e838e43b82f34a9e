-- What postings say, as plain data: of marks their list, of a scheme its tables, and nothing of who owns them.
use Rattle.std.specs.Prelude.{ℕ, Bool, true, false, ◌||◌, List, [], ◌∷◌, map, Option, None}
use Rattle.std.specs.List.{flat_map, last_or}
use Rattle.std.specs.Arc.{arc_value}
use Rattle.schemes.specs.declared.parts.Parts.{Parts}
use Rattle.generations.specs.declared.posting.Mark.{Mark}
use Rattle.generations.specs.declared.posting.Verdict.{Verdict}
use Rattle.generations.specs.declared.posting.Verdict.TheVariants.{Accepted, Refused}
use Rattle.generations.specs.declared.posting.Posting.{Posting}
use Rattle.generations.specs.declared.posting.Posting.TheVariants.{Marks, Down, Generation}
use Rattle.generations.specs.declared.posting.Notice.{Notice}
use Rattle.generations.specs.declared.posting.Notice.TheVariants.{Marked, Failed, Built}

-- what a posting says
abbrev pub notice_of : Posting → Notice
notice_of (Marks marks) = Marked marks.items
notice_of Down = Failed
notice_of (Generation number scheme) = Built number (arc_value scheme)

-- the session and ticket of a mark
abbrev pub told_to : Mark → ℕ × ℕ
told_to mark = (mark.session, mark.ticket)

-- the count of a verdict that accepts, before others
abbrev pub count_and : Verdict → List ℕ → List ℕ
count_and (Accepted count) counts = count ∷ counts
count_and (Refused op code) counts = counts

-- the counts that marks tell
abbrev pub counts_of : List Mark → List ℕ
counts_of [] = []
counts_of (mark ∷ marks) = count_and mark.verdict (counts_of marks)

-- the marks of one notice
abbrev pub marks_of : Notice → List Mark
marks_of (Marked marks) = marks
marks_of Failed = []
marks_of (Built number scheme) = []

-- all marks, in order
abbrev pub marks_in : List Notice → List Mark
marks_in log = flat_map marks_of log

-- a generation: its number and its scheme's tables
abbrev pub generation_of : Notice → List (ℕ × Parts)
generation_of (Marked marks) = []
generation_of Failed = []
generation_of (Built number scheme) = (number, scheme) ∷ []

-- all generations, in order
abbrev pub generations_in : List Notice → List (ℕ × Parts)
generations_in log = flat_map generation_of log

-- their numbers
abbrev pub numbers_in : List Notice → List ℕ
numbers_in log = map (λ g. g.0) (generations_in log)

-- the newest generation
abbrev pub newest_in : List Notice → Option (ℕ × Parts)
newest_in log = last_or None (generations_in log)

-- whether it says that the device failed
abbrev pub is_down : Notice → Bool
is_down (Marked marks) = false
is_down Failed = true
is_down (Built number scheme) = false

-- whether one of them says so
abbrev pub says_down : List Notice → Bool
says_down [] = false
says_down (notice ∷ log) = is_down notice || says_down log

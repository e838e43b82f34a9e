-- What a board holds: the fold of a list of notices.
use Rattle.std.specs.Prelude.{ℕ, Bool, true, false, List, [], ◌∷◌, ◌++◌, fold, Option, Some, None, slice_set, replicate, get_or, cond, ◌==◌}
use Rattle.schemes.specs.declared.parts.Parts.{Parts}
use Rattle.requests.specs.Tickets.{sessions, raise}
use Rattle.generations.specs.declared.posting.Mark.{Mark}
use Rattle.generations.specs.declared.posting.Verdict.{Verdict}
use Rattle.generations.specs.declared.posting.Verdict.TheVariants.{Accepted, Refused}
use Rattle.generations.specs.declared.posting.Notice.{Notice}
use Rattle.generations.specs.declared.posting.Notice.TheVariants.{Marked, Failed, Built}
use Rattle.generations.specs.Notices.{told_to}
use Rattle.generations.specs.Shelves.{newest}

-- each session's last mark and last accepted ticket, the count of accepted changes, whether the device failed, and the
-- newest generations, the oldest of these first
pub record BoardState : Type 0 where
  pub marks : List (Option Mark)
  pub accepted : List ℕ
  pub count : ℕ
  pub down : Bool
  pub shelf : List (Option (ℕ × Parts))

-- before any notice, from where the sessions' tickets and the count begin
abbrev pub fresh : List ℕ → ℕ → BoardState
fresh starts count = record { marks = replicate sessions None; accepted = starts; count = count; down = false; shelf = [] }

-- the last marks after one more
abbrev pub marked : List (Option Mark) → Mark → List (Option Mark)
marked marks m = slice_set marks m.session (Some m)

-- the last accepted tickets after one verdict more
abbrev pub accepted_by : Verdict → List ℕ → ℕ × ℕ → List ℕ
accepted_by (Accepted count) tickets p = raise tickets p
accepted_by (Refused op code) tickets p = tickets

-- the last accepted tickets after one mark more
abbrev pub accepting : List ℕ → Mark → List ℕ
accepting tickets m = accepted_by m.verdict tickets (told_to m)

-- the count after one verdict more
abbrev pub counted_by : Verdict → ℕ → ℕ
counted_by (Accepted count) before = count
counted_by (Refused op code) before = before

-- the count after one mark more
abbrev pub counting : ℕ → Mark → ℕ
counting count m = counted_by m.verdict count

-- what a board holds after one notice more
abbrev pub after : BoardState → Notice → BoardState
after s (Marked ms) = record { marks = fold marked s.marks ms; accepted = fold accepting s.accepted ms; count = fold counting s.count ms; down = s.down; shelf = s.shelf }
after s Failed = record { marks = s.marks; accepted = s.accepted; count = s.count; down = true; shelf = s.shelf }
after s (Built number scheme) = record { marks = s.marks; accepted = s.accepted; count = s.count; down = s.down; shelf = newest (s.shelf ++ Some (number, scheme) ∷ []) }

-- what a board holds after these notices
abbrev pub board_of : List ℕ → ℕ → List Notice → BoardState
board_of starts count log = fold after (fresh starts count) log

-- the last mark of a session
abbrev pub mark_of : BoardState → ℕ → Option Mark
mark_of s session = get_or s.marks session None

-- the number on a place of the shelf, or what was found before it
abbrev pub number_or : Option ℕ → Option (ℕ × Parts) → Option ℕ
number_or found None = found
number_or found (Some g) = Some g.0

-- the number of the newest generation of a shelf
abbrev pub latest_of : List (Option (ℕ × Parts)) → Option ℕ
latest_of shelf = fold number_or None shelf

-- the tables of the generation of this number, where the shelf has it
abbrev pub scheme_of : ℕ → List (Option (ℕ × Parts)) → Option Parts
scheme_of number [] = None
scheme_of number (None ∷ rest) = scheme_of number rest
scheme_of number (Some g ∷ rest) = cond (g.0 == number) (Some g.1) (scheme_of number rest)

-- The rule of the book of a board, and what its steps tell.
use Rattle.std.specs.Prelude.{ℕ, ◌≡◌, ◌==◌, true, List, [], ◌∷◌, ◌++◌, length, MatchBool}
use Rattle.logbook.specs.Pages.{Cell, Step, View, Book, Named}
use Rattle.generations.specs.declared.posting.Entry.{Entry}
use Rattle.generations.specs.Entries.{told_by, notices}

-- the one word is how many notices there are
pub record IsCounted (cells : List Cell) (log : List Entry) : Type 0 where
  pub words : cells ≡ (length (notices log), true) ∷ []

-- the word that holds the length
abbrev pub head_of : Book → Named
head_of b = record { tracked = true; key = 0; book = b }

-- the notice was added to all that had been seen; or there were more notices
abbrev pub Appends : Step Entry → View Entry ℕ → ℕ → View Entry ℕ → Type 0
Appends s v found w = MatchBool (found == s.old) (notices w.0 ≡ notices v.0 ++ told_by s.ask) (length (notices w.0) ≡ found)

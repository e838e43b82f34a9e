-- The one list of lines that put requests.
use Rattle.std.specs.Prelude.{ℕ, ◌≡◌, ◌==◌, ◌++◌, ◌∷◌, [], List, filter}
use mathlib.Core.List.{IsPrefix}
use Rattle.logbook.specs.Pages.{Book}
use Rattle.put_lines.specs.declared.put_line.PutLine.{PutLine}

-- those of one session, in order
abbrev pub lines_of_session : ℕ → List PutLine → List PutLine
lines_of_session session lines = filter (λ l. l.session == session) lines

-- a beginning of the list of a book
pub record Listed : Type 0 where
  pub book : Book
  pub lines : List PutLine

abbrev pub listed : Book → List PutLine → Listed
listed book lines = record { book = book; lines = lines }

-- one is the other with this line behind all of its session; lines of other sessions may have come
pub record AddsLine (old : Listed) (line : PutLine) (new : Listed) : Type 0 where
  pub book : new.book ≡ old.book
  pub on : IsPrefix old.lines new.lines
  pub added : lines_of_session line.session new.lines ≡ lines_of_session line.session old.lines ++ line ∷ []

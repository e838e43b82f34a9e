-- The rule of the book, and what its step tells.
use Rattle.std.specs.Prelude.{ℕ, zero, suc, ◌≡◌, ◌<◌, ◌==◌, true, List, [], ◌∷◌, ◌++◌, length, MatchBool}
use Rattle.logbook.specs.Pages.{Cell, Step, View, Book, Named, cell}
use Rattle.put_lines.specs.declared.put_line.PutLine.{PutLine}
use Rattle.put_lines.specs.Lines.{lines_of_session}

-- each of the 64 words is how many lines of its session there are
pub record IsCounted (cells : List Cell) (log : List PutLine) : Type 0 where
  pub wide : length cells ≡ 64
  pub counts : (session : ℕ) → session < 64 → cell cells session ≡ (length (lines_of_session session log), true)

-- the word of a session
abbrev pub word_of : Book → ℕ → Named
word_of book session = record { tracked = true; key = session; book = book }

-- those of the first so many sessions
abbrev pub words_of : Book → ℕ → List Named
words_of book zero = []
words_of book (suc n) = words_of book n ++ word_of book n ∷ []

-- the line was added behind all of its session that had been seen; or there were more
abbrev pub Appends : Step PutLine → View PutLine ℕ → ℕ → View PutLine ℕ → Type 0
Appends s v found w = MatchBool (found == s.old) (lines_of_session s.ask.session w.0 ≡ lines_of_session s.ask.session v.0 ++ s.ask ∷ []) (Unit {0})

-- Which lines put requests: those that are answered by verdicts.
use Rattle.std.specs.Prelude.{◌≡◌, ◌++◌, ◌∷◌, [], ◌+◌, ◌<◌, ℕ, List, Some, length, replicate, set, slice_get}
use mathlib.Core.List.{IsPrefix}
use Rattle.requests.specs.Tickets.{last_of, sessions}
use Rattle.generations.specs.declared.posting.Mark.{Mark}
use Rattle.put_lines.specs.declared.put_line.PutLine.{PutLine}
use Rattle.put_lines.specs.Lines.{Listed, lines_of_session}
use Rattle.live_lines.specs.declared.answer.Answer.{Answer}
use Rattle.live_lines.specs.declared.answer.Answer.TheVariants.{Settled}

-- the line at a place, whose request has this mark
abbrev pub put_by : Mark → ℕ → PutLine
put_by mark place = record { session = mark.session; ticket = mark.ticket; place = place }

-- the line at a place, where its answer is a verdict
abbrev pub put_at : ℕ → Answer → List PutLine
put_at place (Settled mark) = put_by mark place ∷ []
put_at place other = []

-- those of answers to the lines from a place on, in order
abbrev pub puts_from : ℕ → List Answer → List PutLine
puts_from place [] = []
puts_from place (answer ∷ answers) = put_at place answer ++ puts_from (place + 1) answers

-- the lines that are answered by verdicts, in order
abbrev pub puts_in : List Answer → List PutLine
puts_in answers = puts_from 0 answers

-- ---- how an answer goes with those before it

-- before any answer no session has a line
abbrev pub no_puts : List ℕ
no_puts = replicate sessions 0

-- the line of a verdict was noted as the next one of its session
abbrev pub IsPutNext : ℕ → Answer → List ℕ → List ℕ → List PutLine → Type 0
IsPutNext place (Settled mark) old new lines =
    (mark.session < length old) × (slice_get (lines_of_session mark.session lines) (last_of old mark.session) ≡ Some (put_by mark place)) × (new ≡ set old mark.session (last_of old mark.session + 1))
IsPutNext place other old new lines = new ≡ old

-- an answer more: so many lines of each session, and what was noted
pub record NotesMore (place : ℕ) (answer : Answer) (old new : List ℕ) (before after : Listed) : Type 0 where
  pub book : after.book ≡ before.book
  pub on : IsPrefix before.lines after.lines
  pub next : IsPutNext place answer old new after.lines

-- Of each session the lines that are answered by verdicts are the first ones that were noted, so many.
pub record AreNotedFirst (puts : List ℕ) (lines : List PutLine) (answers : List Answer) : Type 0 where
  pub counted : (session : ℕ) → last_of puts session ≡ length (lines_of_session session (puts_in answers))
  pub first : (session : ℕ) → IsPrefix (lines_of_session session (puts_in answers)) (lines_of_session session lines)

-- What editors noted of the requests that were put.
use Rattle.std.specs.Prelude.{◌≡◌, ◌<◌, ◌≤◌, ℕ, List, length}
use mathlib.Core.List.{IsPrefix}
use Rattle.logbook.specs.Pages.{Book}
use Rattle.requests.specs.Tickets.{last_of}
use Rattle.requests.specs.declared.request.Request.{Request}
use Rattle.put_lines.specs.declared.put_line.PutLine.{PutLine}
use Rattle.put_lines.specs.Lines.{lines_of_session}
use Rattle.intake.specs.Turns.{of}
use Rattle.line_exchange.specs.Inputs.{Input}
use Rattle.line_exchange.specs.declared.tally.Tally.{Tally}
use Rattle.line_workers.specs.Submits.{ArePutBy}
use Rattle.live_service.specs.declared.ending.Ending.{Ending}
use Rattle.live_service.specs.declared.ending.Joined.{Joined}

-- Each of a session's requests was put by the line that was noted of it: the first so many lines of the session.
pub record AreAllNoted (input : Input) (editors : ℕ) (puts : List ℕ) (lines : List PutLine) (session : ℕ) (requests : List Request) : Type 0 where
  pub noted : List PutLine
  pub put : ArePutBy input editors noted requests
  pub many : last_of puts session ≡ length noted
  pub first : IsPrefix noted (lines_of_session session lines)

-- The editors of the first sessions came back: all that they put was taken and noted. Of later sessions nothing was noted.
pub record AreJoined (book : Book) (input : Input) (editors : ℕ) (got : List Request) (joined : Joined) : Type 0 where
  pub book_is : joined.lines.book ≡ book
  pub each : (session : ℕ) → session < joined.count → AreAllNoted input editors joined.puts joined.lines.lines session (of session got)
  pub later : (session : ℕ) → joined.count ≤ session → last_of joined.puts session ≡ 0

-- Each session was told as many verdicts as its editor noted lines, and all that was noted is one list.
pub record AreSamePuts (tally : Tally) (ending : Ending) : Type 0 where
  pub puts : ending.puts ≡ tally.puts
  pub all : List PutLine
  pub told : IsPrefix tally.lines.lines all
  pub noted : IsPrefix ending.lines.lines all

-- Which requests the lines of a service put.
use Rattle.std.specs.Prelude.{◌≡◌, ◌+◌, ◌++◌, ◌∷◌, [], ℕ, List, Option, All, length}
use Rattle.logbook.specs.Pages.{Book}
use Rattle.requests.specs.declared.request.Request.{Request}
use Rattle.put_lines.specs.declared.put_line.PutLine.{PutLine}
use Rattle.put_lines.specs.Lines.{AddsLine, lines_of_session}
use Rattle.intake.specs.Editors.{Editing}
use Rattle.intake.specs.Ends.{Taking}
use Rattle.service_actors.specs.Edited.{IsSameEditor}
use Rattle.live_lines.specs.declared.asked.Asked.{Asked}
use Rattle.live_lines.specs.declared.asked.Asked.TheVariants.{Edit}
use Rattle.live_lines.specs.declared.answer.Answer.{Answer}
use Rattle.live_lines.specs.declared.answer.Answer.TheVariants.{Settled}
use Rattle.live_lines.specs.Answers.{IsOfTicket}
use Rattle.line_exchange.specs.Inputs.{Input}
use Rattle.line_exchange.specs.Streams.{IsAskedAt}
use Rattle.line_exchange.specs.PutLines.{put_by}
use Rattle.line_exchange.specs.declared.messages.Noted.{Noted}

-- the line at a place is an edit of the request's session, with its change, and under its ticket where the line names one
pub record IsPutAt (input : Input) (editors place : ℕ) (request : Request) : Type 0 where
  pub ticket : Option ℕ
  pub asked : IsAskedAt input editors place (Edit request.session ticket request.change)
  pub under : IsOfTicket ticket request.ticket

-- the lines put these requests, one each and in their order, under the tickets that were noted
abbrev pub ArePutBy : Input → ℕ → List PutLine → List Request → Type 0
ArePutBy input editors [] [] = Unit {0}
ArePutBy input editors (line ∷ lines) (request ∷ requests) = (line.ticket ≡ request.ticket) × ∥ IsPutAt input editors line.place request ∥₁ × ArePutBy input editors lines requests
ArePutBy input editors lines requests = ⊥

-- what an editor put for what is asked for: of an edit that is answered by a verdict the request, under the ticket that is told; else nothing
abbrev pub HasPutFor : Asked → Answer → Editing → Editing → Type 0
HasPutFor (Edit session ticket change) (Settled mark) old new = new.put ≡ old.put ++ record { session = mark.session; ticket = mark.ticket; change = change } ∷ []
HasPutFor asked answer old new = new.put ≡ old.put

-- a session's editor noted the line of a verdict behind those before it; of another answer nothing
abbrev pub NotesAnswer : ℕ → ℕ → Answer → Noted → Noted → Type 0
NotesAnswer session place (Settled mark) old new = (mark.session ≡ session) × (new.number ≡ old.number + 1) × AddsLine old.lines (put_by mark place) new.lines
NotesAnswer session place answer old new = (new.number ≡ old.number) × (new.lines ≡ old.lines)

-- What an editor noted in this book: of each request that it put the line, and how many there are.
pub record HasNoted (book : Book) (input : Input) (editors : ℕ) (editor : Editing) (noted : Noted) : Type 0 where
  pub book_is : noted.lines.book ≡ book
  pub number : noted.number ≡ length (lines_of_session editor.session noted.lines.lines)
  -- each request was put by the line that was noted
  pub put : ArePutBy input editors (lines_of_session editor.session noted.lines.lines) editor.put

-- An editor comes back from its thread.
pub record ComesBack (book : Book) (input : Input) (editors : ℕ) (given back : Editing) (noted : Noted) : Type 0 where
  -- it is the one that was given
  pub same : IsSameEditor given back
  pub notes : HasNoted book input editors back noted

-- at the end of a queue that takes, all its editors, none of which has put anything
pub record AreAllEditors (taker : Taking) (editors : List Editing) : Type 0 where
  pub many : length editors ≡ taker.made
  pub queue : All (λ e. e.queue ≡ taker.queue) editors
  pub fresh : All (λ e. e.put ≡ []) editors

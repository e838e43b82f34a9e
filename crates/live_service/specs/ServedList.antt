-- The one list of requests that a service took, and what it posted of it and left of its disk.
use Rattle.std.specs.Prelude.{◌≡◌, ℕ, IfOk, IsSomeAnd, IsTrue, List, Option, Result, [], All, ◌<◌, length}
use Rattle.std.specs.Io.KnownBytes.{Appends}
use Rattle.disk_trait.specs.declared.disk.Disk.{Ghosts}
use Rattle.disk_trait.specs.Disk.{DiskView, LeavesOnly}
use Rattle.put_lines.specs.Lines.{lines_of_session as session_lines}
use Rattle.requests.specs.declared.request.Request.{Request}
use Rattle.layout_2.specs.State.{State}
use Rattle.layout_2.specs.Standing.{KeepsThrough, StandsFor}
use Rattle.checkpoint.specs.declared.store.Store.{Store}
use Rattle.checkpoint.specs.StoreWords.{state_of, view_of}
use Rattle.group_commit.specs.Settling.{settle}
use Rattle.generations.specs.Beginnings.{Beginning, GoesOn, Opening}
use Rattle.generations.specs.Knowledges.{Knowledge}
use Rattle.generations.specs.Posts.{Posts}
use Rattle.request_lists.specs.declared.builds.Builds.{Builds}
use Rattle.request_lists.specs.declared.builds.Builds.TheVariants.{InTurn, Beside}
use Rattle.request_lists.specs.Posted.{ArePosted}
use Rattle.committer_thread.specs.Kept.{HasSettled, IsServedDisk, StandsForBeginning}
use Rattle.service_actors.specs.declared.stop_cause.StopCause.{StopCause}
use Rattle.live_lines.specs.declared.answer.Answer.{Answer}
use Rattle.intake.specs.Turns.{of}
use Rattle.line_exchange.specs.Inputs.{Input, Bytes, Script}
use Rattle.line_exchange.specs.declared.messages.Stream.{Ghosts as Streams}
use Rattle.line_workers.specs.Submits.{ArePutBy}
use Rattle.live_service.specs.Noting.{AreAllNoted, AreSamePuts}
use Rattle.live_service.specs.declared.ending.Ending.{Ending}
use Rattle.packet_ways.specs.Standing.{IsNewest}
use Rattle.line_exchange.specs.OneList.{AreAnswersIn, AreGone}
use Rattle.line_exchange.specs.PutLines.{puts_in}
use Rattle.line_exchange.specs.Measured.{AreMeasured}
use Rattle.line_exchange.specs.Tallies.{AreAwaited, AreBackedUp, AreDropped, no_tickets, told_in}
use Rattle.requests.specs.Tickets.{Rises}
use Rattle.line_exchange.specs.Waits.{AreNoOlder}
use Rattle.line_exchange.specs.declared.tally.Tally.{Tally}
use Rattle.line_exchange.specs.Prints.{AreAllLines, HasPrintedBy, lines_of}

-- ---- a board at its beginning

-- A board of this name to which nothing was posted, with tickets and a count as a state has them; there are readers of it.
pub record IsBoardOf (opening : Opening) (state : State) (writer : Posts) (readers : List Knowledge) : Type 0 where
  pub named : writer.opening ≡ opening
  pub starts : writer.opening.starts ≡ state.tickets
  pub count : writer.opening.count ≡ state.count
  pub posted : writer.posted ≡ []
  pub kept : writer.kept ≡ []
  pub some : 0 < length readers
  pub seats : All (λ r. r.all.opening ≡ opening) readers

-- ---- an engine that nothing stopped

-- the generations of a script are built in turn with the rounds, and those of an input beside them
abbrev pub builds_of : Input → Builds
builds_of (Bytes bytes) = Beside
builds_of (Script lines) = InTurn

-- From the state of a store on requests were taken and all settled: what is on the board has the marks of the first of them, and each
-- generation there serves the state that its number names, the newest that after all of them. A crash at any moment left the state after a
-- beginning of them, and one now leaves the state after all. Each session's requests were put by the lines that were noted.
pub record HasServedAll {D : Type 0} {V : _} (store : Store D V) (input : Input) (editors : ℕ) (ending : Ending) (new : DiskView) : Type 0 where
  pub taken : List Request
  pub begins : (ending.board.opening.starts ≡ (state_of store).tickets) × (ending.board.opening.count ≡ (state_of store).count)
  pub posted : ArePosted (builds_of input) (state_of store) taken ending.board.log
  pub newest : IsNewest ending.board (settle (state_of store) taken).state.count
  pub settled : HasSettled (state_of store) taken (view_of store) new
  pub stands : IsTrue new.keeps_model → KeepsThrough new (settle (state_of store) taken).state
  pub of_input : (session : ℕ) → AreAllNoted input editors ending.puts ending.lines.lines session (of session taken)

-- An engine over a store ended so, at a board of this name, for the lines of a stream.
pub record EndsServed {D J : Type 0} {V : _} (opening : Opening) (stream : Streams J) (store : Store D V) (result : Result Ending StopCause) (new : DiskView) : Type 0 where
  -- whatever ended it: requests were settled on the disk, which failed where that is the cause
  pub disk : IsServedDisk store result new
  -- where nothing stopped it, its board is that of this name, and lines were noted in the stream's book
  pub named : IfOk result (λ ending. (ending.board.opening ≡ opening) × (ending.lines.book ≡ stream.book))
  -- .. and all that it took was settled
  pub all : IfOk result (λ ending. HasServedAll store stream.input stream.editors ending new)

-- The board has all that was known, as many verdicts were told as lines were noted, and the disk came back behind that.
pub record HasServedOn {D : Type 0} {V : _} (store : Store D V) (input : Input) (editors : ℕ) (tally : Tally) (back : Option D) : Type 0 where
  pub ending : Ending
  pub on : GoesOn tally.known ending.board
  pub told : AreSamePuts tally ending
  pub all : IsSomeAnd back (λ d. HasServedAll store input editors ending (V.view d))

-- Lines were answered over a store: all were printed by what was known, a line of this text for each answer, and the board has it.
pub record HasPrintedOn {D J : Type 0} {V : _} (text : Answer → List ℕ) (stream : Streams J) (store : Store D V) (old new : Option (List ℕ)) (back : Option D) : Type 0 where
  pub tally : Tally
  pub printed : HasPrintedBy text tally stream.input stream.editors (Appends old new)
  pub whole : AreAllLines stream.input tally.count
  pub on : HasServedOn store stream.input stream.editors tally back

-- ---- a service that no fault ended

-- These answers are of one list of requests, which the service took from the state of its device on:
pub record AreOfOneList {D : Type 0} (model : Ghosts D) (disk back : D) (input : Input) (editors : ℕ) (answers : List Answer) : Type 0 where
  -- the state that the device held
  pub first : State
  pub held : IsTrue (model.view disk).keeps_model → StandsFor first (model.view disk).content
  -- the requests, and the postings of the board
  pub taken : List Request
  pub board : Beginning
  pub begins : (board.opening.starts ≡ first.tickets) × (board.opening.count ≡ first.count)
  -- of each session the lines that are answered by verdicts put its requests, one each and in their order: each asks for this edit, and is
  -- told the mark under its ticket; no other line put one
  pub of_input : (session : ℕ) → ArePutBy input editors (session_lines session (puts_in answers)) (of session taken)
  -- the marks on the board are those of settling the first of the requests, and each generation there serves the state that its number
  -- names. What stands before it has the marks of the requests that led there, and in a script's service just these
  pub posted : ArePosted (builds_of input) first taken board.log
  -- the newest generation there is that of the state after all of them
  pub newest : IsNewest board (settle first taken).state.count
  -- each answer is to the line at its place, and the board says it
  pub said : AreAnswersIn board input editors answers
  -- the tickets that are told as verdicts rise in each session
  pub in_turn : Rises no_tickets (told_in answers)
  -- an edit that put nothing is told so by its ticket and the last ones that its session was told before; `resume` tells the last accepted
  pub dropped : AreDropped first.tickets answers
  -- where one tells that a generation is gone, it is so after a beginning of the board's list that says all answers before it
  pub gone : AreGone (λ seen before. AreAnswersIn seen input editors before) board input editors answers
  -- a generation that was waited for has all changes that an earlier answer tells as accepted
  pub awaited : AreAwaited answers
  -- .. and a route or an address on a later line goes by no older one
  pub no_older : AreNoOlder answers
  -- a backup has all changes that an earlier answer tells as accepted
  pub backed : AreBackedUp answers
  -- a metrics line counts the answers before it, by kind
  pub measured : AreMeasured answers
  -- a crash at any moment left the state after a beginning of the requests
  pub any_moment : IsTrue (model.view disk).keeps_model → KeepsThrough (model.view disk) first → LeavesOnly (model.view disk) (model.view back) (StandsForBeginning first taken)
  -- and one now leaves the state after all of them
  pub left : IsTrue (model.view disk).keeps_model → KeepsThrough (model.view back) (settle first taken).state

-- An input was answered, or a script: a line of this text was printed for each of its lines, of answers of one list.
pub record HasAnswered {D : Type 0} (text : Answer → List ℕ) (model : Ghosts D) (disk back : D) (input : Input) (editors : ℕ) (old new : Option (List ℕ)) : Type 0 where
  pub answers : List Answer
  pub all : AreAllLines input (length answers)
  pub printed : Appends old new (lines_of text answers)
  pub one_list : AreOfOneList model disk back input editors answers

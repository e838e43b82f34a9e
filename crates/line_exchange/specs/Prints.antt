-- What a live service prints.
use Rattle.std.specs.Prelude.{◌≡◌, ℕ, List, IfSome, Some, length}
use Rattle.std.specs.List.{flat_map}
use Rattle.command_output.specs.Lines.{line}
use Rattle.line_exchange.specs.Begun.{PrintsUnless}
use Rattle.line_exchange.specs.declared.answer_writer.AnswerWriter.{Ghosts}
use Rattle.input_lines.specs.Lines.{lines_in}
use Rattle.requests.specs.Tickets.{tickets_after}
use Rattle.live_lines.specs.declared.answer.Answer.{Answer}
use Rattle.live_lines.specs.Answers.{answer_text}
use Rattle.line_exchange.specs.Inputs.{Input, Bytes, Script}
use Rattle.line_exchange.specs.Streams.{AreEachAt, IsAnswerAt}
use Rattle.line_exchange.specs.OneList.{AreGone, AreSaid}
use Rattle.line_exchange.specs.Measured.{AreCounted, AreMeasured}
use Rattle.line_exchange.specs.PutLines.{AreNotedFirst}
use Rattle.line_exchange.specs.Tallies.{AreAwaited, AreBackedUp, AreDropped, AreInTurn, AreReached, accepted_in}
use Rattle.line_exchange.specs.Waits.{AreAwaitedTo, AreNoOlder}
use Rattle.line_exchange.specs.declared.tally.Tally.{Tally}
use Rattle.line_exchange.specs.declared.printed.Printed.{Printed}
use Rattle.line_exchange.specs.declared.line_fault.LineFault.TheVariants.{Failed}

-- the lines of answers, of each one's text
abbrev pub lines_of : (Answer → List ℕ) → List Answer → List ℕ
lines_of text answers = flat_map (λ answer. line (text answer)) answers

-- Of so many answers this holds of their lines: the k-th answer is to the k-th line.
pub record HasPrinted (input : Input) (editors : ℕ) (Stands : List ℕ → Type 0) (count : ℕ) : Type 0 where
  pub answers : List Answer
  pub many : length answers ≡ count
  pub are : AreEachAt (IsAnswerAt input editors) answers
  pub printed : Stands (lines_of answer_text answers)

-- Of as many answers as the tally has this holds of their lines, of this text each: the k-th answer is to the k-th line, and each list
-- that goes on from what the tally knows says it.
pub record HasPrintedBy (text : Answer → List ℕ) (tally : Tally) (input : Input) (editors : ℕ) (Stands : List ℕ → Type 0) : Type 0 where
  pub answers : List Answer
  pub many : length answers ≡ tally.count
  pub said : AreSaid tally.known input editors answers
  pub gone : AreGone (λ seen before. AreSaid seen input editors before) tally.known input editors answers
  -- a generation that was waited for has what was told before
  pub awaited : AreAwaited answers
  -- .. and so has a backup
  pub backed : AreBackedUp answers
  pub reached : AreReached tally.reached answers
  -- ways and addresses go by no older one than was waited for before
  pub no_older : AreNoOlder answers
  pub awaited_to : AreAwaitedTo tally.awaited answers
  pub in_turn : AreInTurn tally.tickets answers
  -- the lines of verdicts were noted by editors
  pub noted : AreNotedFirst tally.puts tally.lines.lines answers
  -- metrics tell of the answers before them
  pub measured : AreMeasured answers
  pub counted : AreCounted tally.counted answers
  -- edits that put nothing are told so by what was told before
  pub dropped : AreDropped tally.known.opening.starts answers
  pub accepted : tally.accepted ≡ tickets_after tally.known.opening.starts (accepted_in answers)
  pub printed : Stands (lines_of text answers)

-- What was printed on a writer: answers to the first lines, by what is known of the list of postings, and nothing else.
pub record PrintsSo {W : Type 0} (outlet : Ghosts W) (input : Input) (editors : ℕ) (old new : W) (printed : Printed) : Type 0 where
  -- all their lines, or a beginning of these where the output failed
  pub lines : HasPrintedBy answer_text printed.tally input editors (PrintsUnless (printed.end ≡ Some Failed) (outlet.contents old) (outlet.contents new))
  -- then a write of this very writer did
  pub failed : printed.end ≡ Some Failed → outlet.has_failed new

-- these are all lines, where that is known
abbrev pub AreAllLines : Input → ℕ → Type 0
AreAllLines (Bytes bytes) count = IfSome bytes (λ xs. count ≡ length (lines_in xs))
AreAllLines (Script script) count = count ≡ length script

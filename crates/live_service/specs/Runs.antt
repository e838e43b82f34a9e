-- How the threads of a live service end, and what it prints.
use Rattle.std.specs.Prelude.{◌≡◌, ◌≢◌, ◌⊎◌, ℕ, List, Option, Result, Some, None, IfSome, IsErrOf, IsSomeAnd}
use Rattle.std.specs.Io.KnownBytes.{Appends}
use Rattle.live_service.specs.declared.ending.Ending.{Ending}
use Rattle.command_output.specs.declared.fault.Fault.{Fault}
use Rattle.command_output.specs.declared.fault.Fault.TheVariants as told
use Rattle.line_exchange.specs.Begun.{PrintsUnless}
use Rattle.line_exchange.specs.Reads.{AreOfInput}
use Rattle.line_exchange.specs.declared.answer_writer.AnswerWriter.{Ghosts}
use Rattle.checkpoint.specs.declared.store.Store.{Store}
use Rattle.value_syntax.specs.declared.line.ScriptLine.{ScriptLine}
use Rattle.line_exchange.specs.Gathers.{BreaksOff, IsServed}
use Rattle.line_exchange.specs.declared.served.Served.{Served}
use Rattle.line_exchange.specs.declared.served.Served.TheVariants as served
use Rattle.committer_thread.specs.Kept.{IsServedDisk}
use Rattle.service_actors.specs.declared.stop_cause.StopCause.{StopCause}
use Rattle.service_actors.specs.declared.stop_cause.StopCause.TheVariants as cause
use Rattle.line_exchange.specs.declared.printed.Printed.{Printed}
use Rattle.line_exchange.specs.declared.line_fault.LineFault.TheVariants.{Failed}
use Rattle.line_exchange.specs.Inputs.{Input}
use Rattle.line_exchange.specs.declared.messages.Stream.{Ghosts as Streams}
use Rattle.line_exchange.specs.Ends.{IsFinish, fault_of}
use Rattle.live_service.specs.ServeEnds.{IsLater}
use Rattle.line_exchange.specs.Prints.{AreAllLines, HasPrinted}
use Rattle.live_lines.specs.Answers.{script_text}
use Rattle.live_service.specs.ServedList.{HasPrintedOn, HasServedOn}

-- a fault of a service whose engine ended so: it says that the device failed only where the engine does
abbrev pub IsFaultOf : {T : Type 0} → Result T StopCause → Fault → Type 0
IsFaultOf engine fault = IsLater fault × (fault ≡ told.Device → IsErrOf engine cause.Device)

-- how the engine of a service ended, and what it left of the disk that a store was on, which came back
pub record IsEngineEnd {D T : Type 0} {V : _} (store : Store D V) (engine : Result T StopCause) (ended : Served) (back : Option D) : Type 0 where
  pub disk : IsSomeAnd back (λ d. IsServedDisk store engine (V.view d))
  pub fault : IfSome (fault_of ended) (λ fault. IsFaultOf engine fault)

-- some engine ended so
abbrev pub HasEnded : {D : Type 0} {V : _} → Store D V → Served → Option D → Type 0
HasEnded store ended back = (engine : Result Ending StopCause) × IsEngineEnd store engine ended back

-- How a service ended that printed so much, and whose console was given this fault or none.
pub record IsPrintEnd (input : Input) (printed : Printed) (given : Option Fault) (ended : Served) : Type 0 where
  pub output : printed.end ≡ Some Failed → fault_of ended ≡ Some told.Output
  -- the output's fault is given only where the printing met it, or where the reading of an input failed
  pub met : given ≡ Some told.Output → (printed.end ≡ Some Failed) ⊎ AreOfInput input
  -- and none where all lines have answers
  pub done : given ≡ None → printed.end ≡ None
  pub whole : given ≡ None → AreAllLines input printed.tally.count
  pub finish : IsFinish given ended

-- the output's fault ended a service, and a write of this very writer has failed
abbrev pub HasBroken : {W : Type 0} → Ghosts W → W → Served → Type 0
HasBroken outlet new ended = (fault_of ended ≡ Some told.Output) × outlet.has_failed new

-- What a service prints that ended so: answers to its first lines, and answers to all lines where no fault ended it. All their lines are
-- printed, or a beginning of these where a write failed.
pub record PrintsTo {W : Type 0} (outlet : Ghosts W) (input : Input) (editors : ℕ) (old new : W) (ended : Served) : Type 0 where
  pub answers : (count : ℕ) × HasPrinted input editors (PrintsUnless (HasBroken outlet new ended) (outlet.contents old) (outlet.contents new)) count
      × (ended ≡ served.Printed → AreAllLines input count)

-- A console, before and after: what it prints between two values of it, and how it is told an end.
pub record ConsoleUse (C : Type 0) : Type 1 where
  pub prints : C → C → Printed → Type 0
  pub finishes : C → C → Option Fault → Served → Type 0
  pub old : C
  pub new : C

-- one that does both so
abbrev pub console_use : {C : Type 0} → (C → C → Printed → Type 0) → (C → C → Option Fault → Served → Type 0) → C → C → ConsoleUse C
console_use prints finishes old new = record { prints = prints; finishes = finishes; old = old; new = new }

-- The threads of a service ran: it printed on a console and told its end there, and ended as its printing did.
pub record IsRun {C D J : Type 0} {V : _} (console : ConsoleUse C) (stream : Streams J) (store : Store D V) (ended : Served) (back : Option D) : Type 0 where
  pub mid : C
  pub printed : Printed
  pub given : Option Fault
  pub printing : console.prints console.old mid printed
  pub finishing : console.finishes mid console.new given ended
  pub print_end : IsPrintEnd stream.input printed given ended
  pub one_list : ended ≡ served.Printed → HasServedOn store stream.input stream.editors printed.tally back

-- No thread was started, since memory ran out or none could be made: that was told.
pub record IsUnstarted {C : Type 0} (console : ConsoleUse C) (ended : Served) : Type 0 where
  pub given : Option Fault
  pub finishing : console.finishes console.old console.new given ended
  pub lacks : (fault_of ended ≡ Some told.Memory) ⊎ (fault_of ended ≡ Some told.NoThread)

-- a service on a store that was opened ended so, for the lines of a stream and on a console
pub record HasRun {C D J : Type 0} {V : _} (on : ConsoleUse C) (stream : Streams J) (store : Store D V) (ended : Served) (back : Option D) : Type 0 where
  pub engine_end : HasEnded store ended back
  pub console : IsRun on stream store ended back ⊎ IsUnstarted on ended

-- A writer of answers, before and after: what is known of it.
pub record WriterUse (W : Type 0) : Type 1 where
  pub outlet : Ghosts W
  pub old : W
  pub new : W

-- one of which this is known
abbrev pub writer_use : {W : Type 0} → Ghosts W → W → W → WriterUse W
writer_use outlet old new = record { outlet = outlet; old = old; new = new }

-- A service of a script ended so, by its writer: without a fault it printed all answers, where the printing failed a beginning of them,
-- and any other fault left the writer as it was.
pub record HasServedScript {W D J : Type 0} {V : _} (out : WriterUse W) (script : List ScriptLine) (stream : Streams J) (store : Store D V) (ended : Served) (back : Option D) : Type 0 where
  pub printed : ended ≡ served.Printed → IsServed script (Appends (out.outlet.contents out.old) (out.outlet.contents out.new))
  pub broken : IfSome (fault_of ended) (λ fault. fault ≡ told.Output → BreaksOff out.outlet script out.old out.new)
  pub untouched : IfSome (fault_of ended) (λ fault. fault ≢ told.Output → out.new ≡ out.old)
  pub engine_end : HasEnded store ended back
  pub one_list : ended ≡ served.Printed → HasPrintedOn script_text stream store (out.outlet.contents out.old) (out.outlet.contents out.new) back

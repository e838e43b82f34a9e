-- What a service leaves whose lines were all answered, and one that a fault ended.
use Rattle.std.specs.Prelude.{◌≡◌, ◌≢◌, ℕ, IsSomeAnd, List, Option}
use Rattle.std.specs.Io.KnownBytes.{Appends}
use Rattle.disk_trait.specs.declared.disk.Disk.{Ghosts}
use Rattle.command_output.specs.declared.fault.Fault.{Fault}
use Rattle.command_output.specs.declared.fault.Fault.TheVariants as told
use Rattle.value_syntax.specs.declared.line.ScriptLine.{ScriptLine}
use Rattle.value_syntax.specs.declared.words.LandmarkWords.{LandmarkWords}
use Rattle.live_service.specs.ServeEnds.{IsServeEnd}
use Rattle.line_exchange.specs.Gathers.{BreaksOff, IsServed}
use Rattle.live_lines.specs.Answers.{answer_text, script_text}
use Rattle.line_exchange.specs.Inputs.{Input, Script}
use Rattle.live_service.specs.Runs.{WriterUse}
use Rattle.live_service.specs.ServedList.{HasAnswered}

-- A device that a service had: what is seen of it, what it was, and what came back.
pub record Lent (D : Type 0) : Type 1 where
  pub model : Ghosts D
  pub disk : D
  pub back : Option D

-- one that is seen so
abbrev pub lent : {D : Type 0} → Ghosts D → D → Option D → Lent D
lent model disk back = record { model = model; disk = disk; back = back }

-- the device came back, and an input was answered on a writer on which this stood and stands
abbrev pub AnswersInput : {D : Type 0} → Lent D → Input → ℕ → Option (List ℕ) → Option (List ℕ) → Type 0
AnswersInput device input editors old new = IsSomeAnd device.back (λ d. HasAnswered answer_text device.model device.disk d input editors old new)

-- and so was a script
abbrev pub AnswersScript : {D : Type 0} → Lent D → List ScriptLine → ℕ → Option (List ℕ) → Option (List ℕ) → Type 0
AnswersScript device script editors old new = IsSomeAnd device.back (λ d. HasAnswered script_text device.model device.disk d (Script script) editors old new)

-- No fault ended the service of a script.
pub record ServesScript {D : Type 0} (device : Lent D) (script : List ScriptLine) (editors : ℕ) (old new : Option (List ℕ)) : Type 0 where
  -- the lines of answers were printed and nothing else: verdicts just where the script's lines are edits
  pub printed : IsServed script (Appends old new)
  -- the device came back, and the answers are of one list of requests
  pub one_list : AnswersScript device script editors old new

-- A fault ended it.
pub record FailsScript {D W : Type 0} (device : Lent D) (asked : LandmarkWords) (out : WriterUse W) (script : List ScriptLine) (fault : Fault) : Type 0 where
  -- it is true of the device
  pub ended : IsServeEnd device.model device.disk asked device.back fault
  -- no line was printed, unless it is the printing that failed
  pub untouched : fault ≢ told.Output → out.new ≡ out.old
  -- then a write of this very writer has failed, and a beginning of the lines was printed
  pub broken : fault ≡ told.Output → BreaksOff out.outlet script out.old out.new

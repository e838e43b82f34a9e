-- What `serve` does: which script it runs, what it prints, and which faults end it.
use Rattle.std.specs.Prelude.{◌≡◌, ◌⊎◌, ℕ, List, [], ◌∷◌, Option, Some, None, All, IfSome, IsSomeAnd, Result}
use Rattle.std.specs.Io.KnownBytes.{Appends}
use Rattle.clap.specs.Walk.{Text}
use Rattle.disk_trait.specs.declared.disk.Disk.{Ghosts}
use Rattle.value_syntax.specs.Scripts.{IsWritten, MayStand}
use Rattle.value_syntax.specs.declared.line.ScriptLine.{ScriptLine}
use Rattle.value_syntax.specs.declared.words.LandmarkWords.{LandmarkWords}
use Rattle.command_output.specs.Printing.{Ends, Known}
use Rattle.command_output.specs.declared.ended.Ended.{Ended}
use Rattle.command_output.specs.declared.ended.Ended.TheVariants.{Done}
use Rattle.command_output.specs.declared.fault.Fault.{Fault}
use Rattle.command_output.specs.declared.fault.Fault.TheVariants as told
use Rattle.committer_thread.specs.Config.{IsNumber}
use Rattle.committer_thread.specs.Kept.{IsLeftBy}
use Rattle.live_service.specs.ServeEnds.{IsServeEnd}
use Rattle.live_service.specs.ServedList.{HasAnswered}
use Rattle.line_exchange.specs.Begun.{Begins, PrintsUnless}
use Rattle.line_exchange.specs.Gathers.{IsServed}
use Rattle.line_exchange.specs.Inputs.{Bytes, Script}
use Rattle.line_exchange.specs.Prints.{AreAllLines, HasPrinted}
use Rattle.live_lines.specs.Answers.{answer_text, script_text}
use Rattle.command_line.specs.Asked.{IsAskedFor}
use Rattle.command_line.specs.declared.task.Task.{Task}
use Rattle.command_line.specs.declared.task.Task.TheVariants.{Serve}
use Rattle.file_commands.specs.declared.devices.Access.TheVariants.{ToChange}
use Rattle.file_commands.specs.Devices.{Doing, IsFileFault}
use Rattle.file_commands.specs.Events.{Closed, Event, NotHad, Opened}
use Rattle.file_commands.specs.Tasks.{HasSession, IsOfTables, IsService}
use Rattle.commands.specs.declared.service.Service.{Service}
use Rattle.file_commands.specs.Uses.{DeviceUse, Stream, known_after, known_before}

-- ---- the script

-- the lines of what a reader gives, where that is known: each may stand in a script for so many editors
abbrev pub IsScriptOf : Known → ℕ → List ScriptLine → Type 0
IsScriptOf given editors lines = IfSome given (λ text. IsWritten text lines) × All (MayStand editors) lines

-- what a reader gives, where that is known, is no script for so many editors
abbrev pub IsNoScript : Known → ℕ → Type 0
IsNoScript given editors = IfSome given (λ text. (lines : List ScriptLine) → All (MayStand editors) lines → IsWritten text lines → ⊥)

-- the faults of a script that can't be read
abbrev pub IsReadFault : Fault → Type 0
IsReadFault told.Memory = Unit {0}
IsReadFault told.Output = Unit {0}
IsReadFault fault = ⊥

-- and of what is no script
abbrev pub IsScriptFault : Known → ℕ → Fault → Type 0
IsScriptFault given editors told.Script = IsNoScript given editors
IsScriptFault given editors fault = IsReadFault fault

-- ---- the task

-- the words ask for a service
abbrev pub AskService : List Text → Type 0
AskService words = (task : Task) × IsAskedFor words task × IsService task

-- and one that answers lines as they come
abbrev pub IsLiveService : Task → Type 0
IsLiveService (Serve device editors forwarders places (Some rounds) words) = Unit {0}
IsLiveService task = ⊥

-- the words ask for one
abbrev pub AskLive : List Text → Type 0
AskLive words = (task : Task) × IsAskedFor words task × IsLiveService task

-- the numbers of a service are from 1 to 64
abbrev pub HasSeats : Task → Type 0
HasSeats (Serve device editors forwarders places live words) = IsNumber editors × (IsNumber forwarders × IsNumber places)
HasSeats task = Unit {0}

-- so, and the session of a task is one
abbrev pub MayRun : Task → Type 0
MayRun task = HasSession task × HasSeats task

-- the words ask for tables
abbrev pub AskTables : List Text → Type 0
AskTables words = (task : Task) × IsAskedFor words task × IsOfTables task

-- ---- its device

-- how a device is closed that may not have come back
abbrev pub closing : {D : Type 0} → Option D → List (Event D)
closing None = []
closing (Some left) = Closed left ∷ []

-- One device was opened by this path to change it, a service was given it, and it was closed if it came back; this holds of the two.
pub record OfServed {D : Type 0} (done : Doing D) (path : List ℕ) (P : D → Option D → Type 0) : Type 0 where
  pub disk : D
  pub back : Option D
  pub did : done (Opened path ToChange disk ∷ closing back)
  pub holds : P disk back

-- what a service leaves of its device that a fault ended
abbrev pub FailsServing : {D : Type 0} → Ghosts D → LandmarkWords → Fault → D → Option D → Type 0
FailsServing model words fault disk back = IsServeEnd model disk words back fault × IsLeftBy model disk back

-- where the output failed, a beginning of the lines of answers to the script was printed, and nothing else
abbrev pub BeginsScript : Known → ℕ → Known → Known → Fault → Type 0
BeginsScript given editors old new fault = fault ≡ told.Output → (lines : List ScriptLine) × IsScriptOf given editors lines × IsServed lines (Begins old new)

-- No script is run: it is none, and no device was opened; the device can't be had; or the service ended by this fault.
abbrev pub EndsServe : {D : Type 0} → Ghosts D → Doing D → List ℕ → Known → ℕ → LandmarkWords → Known → Known → Fault → Type 0
EndsServe model done path given editors words old new fault =
    (done [] × IsScriptFault given editors fault) ⊎ (done (NotHad path ToChange ∷ []) × IsFileFault fault)
    ⊎ (BeginsScript given editors old new fault × OfServed done path (FailsServing model words fault))

-- answers to the first lines that a reader gives were printed, in their order, and nothing else: a beginning of these where the output failed
abbrev pub BeginsAnswers : Known → ℕ → Known → Known → Fault → Type 0
BeginsAnswers given editors old new fault = (count : ℕ) × HasPrinted (Bytes given) editors (PrintsUnless (fault ≡ told.Output) old new) count

-- No lines are answered, since memory ran out before the device was opened, or it can't be had; or the live service ended by this fault.
abbrev pub EndsLive : {D : Type 0} → Ghosts D → Doing D → List ℕ → Known → ℕ → LandmarkWords → Known → Known → Fault → Type 0
EndsLive model done path given editors words old new fault =
    ((new ≡ old) × ((done [] × (fault ≡ told.Memory)) ⊎ (done (NotHad path ToChange ∷ []) × IsFileFault fault)))
    ⊎ (BeginsAnswers given editors old new fault × OfServed done path (FailsServing model words fault))

-- the faults that may end `serve`, and what a live service has printed by then
abbrev pub MayEndServing : {D : Type 0} → Ghosts D → Doing D → Task → Known → Known → Known → Fault → Type 0
MayEndServing model done (Serve device editors forwarders places None words) given old new fault = EndsServe model done device.now given editors words old new fault
MayEndServing model done (Serve device editors forwarders places (Some rounds) words) given old new fault = EndsLive model done device.now given editors words old new fault
MayEndServing model done task given old new fault = Unit {0}

-- ---- what is printed

-- `serve`: the lines of answers to the script that a reader gives, of one list of requests, which the device has
abbrev pub PrintsServed : {D : Type 0} → Ghosts D → Doing D → List ℕ → Known → ℕ → Ended → Known → Known → Type 0
PrintsServed model done path given editors ended old new =
    (ended ≡ Done) × (lines : List ScriptLine) × IsScriptOf given editors lines
    × OfServed done path (λ disk back. IsServed lines (Appends old new) × IsSomeAnd back (λ d. HasAnswered script_text model disk d (Script lines) editors old new) × IsLeftBy model disk back)

-- `serve --live`: a line for each line that a reader gives, an answer to it, in their order, of one list of requests, which the device has
abbrev pub PrintsLive : {D : Type 0} → Ghosts D → Doing D → List ℕ → Known → ℕ → Ended → Known → Known → Type 0
PrintsLive model done path given editors ended old new =
    (ended ≡ Done) × ((count : ℕ) × HasPrinted (Bytes given) editors (Appends old new) count × AreAllLines (Bytes given) count)
    × OfServed done path (λ disk back. IsSomeAnd back (λ d. HasAnswered answer_text model disk d (Bytes given) editors old new) × IsLeftBy model disk back)

-- `serve` has printed its answer and nothing else, by what a reader gives
abbrev pub PrintedServing : {D : Type 0} → Ghosts D → Doing D → Task → Known → Ended → Known → Known → Type 0
PrintedServing model done (Serve device editors forwarders places None words) given ended old new = PrintsServed model done device.now given editors ended old new
PrintedServing model done (Serve device editors forwarders places (Some rounds) words) given ended old new = PrintsLive model done device.now given editors ended old new
PrintedServing model done task given ended old new = Unit {0}

-- `serve` over a script
abbrev pub EndsScript : {D W : Type 0} → DeviceUse D → Service → Known → Stream W → Result Ended Fault → Type 0
EndsScript devices service given out result =
    Ends (λ ended before after. PrintsServed devices.model devices.done service.device.now given service.config.editors ended before after)
    (λ fault. EndsServe devices.model devices.done service.device.now given service.config.editors service.words (known_before out) (known_after out) fault)
    out.known out.old out.new result

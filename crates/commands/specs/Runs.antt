-- What a run promises: what is printed and told, which fault ends it, and what it leaves alone.
use Rattle.std.specs.Prelude.{◌≡◌, ◌≢◌, ◌≤◌, ◌⊎◌, ℕ, List, [], Result, Ok, Err}
use Rattle.std.specs.Io.KnownBytes.{Appends}
use Rattle.clap.specs.Walk.{Text}
use Rattle.disk_trait.specs.declared.disk.Disk.{Ghosts}
use Rattle.new_devices.specs.Events.{FileEvent as Making}
use Rattle.value_syntax.specs.declared.words.LandmarkWords.{LandmarkWords}
use Rattle.command_line.specs.Asked.{IsAskedFor, IsRefusedFor}
use Rattle.command_line.specs.declared.refused.WordsRefused.{WordsRefused}
use Rattle.command_line.specs.declared.refused.WordsRefused.TheVariants as why
use Rattle.command_line.specs.declared.task.Task.{Task}
use Rattle.command_line.specs.declared.task.Task.TheVariants.{Serve}
use Rattle.command_output.specs.Faults.{IsNotUnderstood, status_at, status_of, told_text}
use Rattle.command_output.specs.Printing.{Known}
use Rattle.command_output.specs.declared.ended.Ended.{Ended}
use Rattle.command_output.specs.declared.ended.Ended.TheVariants.{Done, Refused}
use Rattle.command_output.specs.declared.fault.Fault.{Fault}
use Rattle.command_output.specs.declared.fault.Fault.TheVariants as told
use Rattle.line_exchange.specs.declared.served.Served.{Served}
use Rattle.line_exchange.specs.declared.served.Served.TheVariants as served
use Rattle.table_files.specs.Files.{Put}
use Rattle.file_commands.specs.Devices.{Doing}
use Rattle.file_commands.specs.Endings.{MayEndAlone, MayEndAtRest, MayEndTables}
use Rattle.file_commands.specs.Printed.{PrintedAlone, PrintedAtRest, PrintedTables}
use Rattle.file_commands.specs.Tasks.{IsService}
use Rattle.commands.specs.declared.outcome.Outcome.{Outcome}
use Rattle.commands.specs.declared.outcome.Outcome.TheVariants.{Answered, Told, Untold}
use Rattle.commands.specs.declared.service.Service.{Service}
use Rattle.commands.specs.declared.streams.Streams.{Streams}
use Rattle.file_commands.specs.Uses.{DeviceUse, Stream, known_after, known_before}
use Rattle.commands.specs.Serves.{AskLive, AskService, AskTables, EndsLive, IsLiveService, MayEndServing, PrintedServing, PrintsLive}

-- ---- what is printed, and why a run ends

-- what is told of words that are no task
abbrev pub words_fault : WordsRefused → Fault
words_fault why.Usage = told.Usage
words_fault why.Words = told.Words
words_fault why.Op = told.Op
words_fault why.TooLong = told.ChangeTooLong
words_fault why.Memory = told.Memory

-- the faults that may end a task that is under way, and what a live service has printed by then
abbrev pub MayEnd : {D : Type 0} → Ghosts D → Doing D → (List Put → Type 0) → Task → Known → Known → Known → Fault → Type 0
MayEnd model done put (Serve device editors forwarders places live words) given old new fault = MayEndServing model done (Serve device editors forwarders places live words) given old new fault
MayEnd model done put task given old new fault = MayEndAtRest model done put task fault

-- The words are no task, no device was opened, and the fault is the one for what is wrong with them, or memory ran out
-- while they were read; or they ask for a task, and `MayFail` says that the fault may end it.
abbrev pub IsFaultBy : {D : Type 0} → Doing D → List Text → (Task → Fault → Type 0) → Fault → Type 0
IsFaultBy done words MayFail fault =
    (done [] × ((refused : WordsRefused) × (fault ≡ words_fault refused) × IsRefusedFor words refused × ((task : Task) → IsAskedFor words task → fault ≡ told.Memory)))
    ⊎ ((task : Task) × IsAskedFor words task × MayFail task fault)

-- and of any task
abbrev pub IsFaultFor : {D : Type 0} → Ghosts D → Doing D → (List Put → Type 0) → List Text → Known → Known → Known → Fault → Type 0
IsFaultFor model done put words given old new fault = IsFaultBy done words (λ task why. MayEnd model done put task given old new why) fault

-- A command that ends so has printed the answer to its task, and nothing else: of the device that it opened, and closed. The script of a
-- service is what a reader gives, and the files of `tables` are those that were put.
abbrev pub PrintedFor : {D : Type 0} → Ghosts D → Doing D → (List Put → Type 0) → Task → Known → Ended → Known → Known → Type 0
PrintedFor model done put (Serve device editors forwarders places live words) given ended old new = PrintedServing model done (Serve device editors forwarders places live words) given ended old new
PrintedFor model done put task given ended old new = PrintedAtRest model done put task ended old new

-- this holds of a task that the words ask for
abbrev pub OfTask : List Text → (Task → Type 0) → Type 0
OfTask words P = (task : Task) × IsAskedFor words task × P task

-- the answer to a task that the words ask for was printed, and nothing else
abbrev pub AnswersWords : {D : Type 0} → Ghosts D → Doing D → (List Put → Type 0) → List Text → Known → Ended → Known → Known → Type 0
AnswersWords model done put words given ended old new = OfTask words (λ task. PrintedFor model done put task given ended old new)

-- ---- how a run ends

-- the exit status of a run that ends so
abbrev pub status_in : Outcome → ℕ
status_in (Answered ended) = status_at ended
status_in (Told fault) = status_of fault
status_in (Untold fault) = status_of fault

-- what was put into files of the system no clause says
abbrev pub AnyPut : List Put → Type 0
AnyPut puts = Unit {0}

-- A run ended so: the answer was printed and nothing was told, or a fault that may end it was told where that could be written.
abbrev pub AnswersOrTells : (Ended → Type 0) → (Fault → Type 0) → Known → Known → Outcome → Type 0
AnswersOrTells Answers MayFail told_old told_new (Answered ended) = Answers ended × (told_new ≡ told_old)
AnswersOrTells Answers MayFail told_old told_new (Told fault) = MayFail fault × Appends told_old told_new (told_text fault)
AnswersOrTells Answers MayFail told_old told_new (Untold fault) = MayFail fault

-- What a run of these words, with what its reader gives, has printed on a writer, and told on another.
abbrev pub IsOutcome : {D : Type 0} → Ghosts D → Doing D → (List Put → Type 0) → List Text → Known → Known → Known → Known → Known → Outcome → Type 0
IsOutcome model done put words given old new told_old told_new outcome =
    AnswersOrTells (λ ended. AnswersWords model done put words given ended old new) (λ fault. IsFaultFor model done put words given old new fault)
    told_old told_new outcome

-- the same of a task that is asked for
abbrev pub IsOutcomeOf : {D : Type 0} → Ghosts D → Doing D → (List Put → Type 0) → Task → Known → Known → Known → Known → Known → Outcome → Type 0
IsOutcomeOf model done put task given old new told_old told_new outcome =
    AnswersOrTells (λ ended. PrintedFor model done put task given ended old new) (λ fault. MayEnd model done put task given old new fault)
    told_old told_new outcome

-- of a live service, by a device's path
abbrev pub IsLiveOutcome : {D : Type 0} → Ghosts D → Doing D → List ℕ → Known → ℕ → LandmarkWords → Known → Known → Known → Known → Outcome → Type 0
IsLiveOutcome model done path given editors words old new told_old told_new outcome =
    AnswersOrTells (λ ended. PrintsLive model done path given editors ended old new) (λ fault. EndsLive model done path given editors words old new fault)
    told_old told_new outcome

-- the outcome is what was answered, or the fault that came, told where that could be written
abbrev pub IsToldSo : Result Ended Fault → Known → Known → Outcome → Type 0
IsToldSo (Ok ended) told_old told_new (Answered answered) = (answered ≡ ended) × (told_new ≡ told_old)
IsToldSo (Err fault) told_old told_new (Told came) = (came ≡ fault) × Appends told_old told_new (told_text came)
IsToldSo (Err fault) told_old told_new (Untold came) = came ≡ fault
IsToldSo result told_old told_new outcome = ⊥

-- the program ends as its live service does
abbrev pub IsEndOf : Served → Outcome → Type 0
IsEndOf served.Printed outcome = outcome ≡ Answered Done
IsEndOf (served.Told fault) outcome = outcome ≡ Told fault
IsEndOf (served.Untold fault) outcome = outcome ≡ Untold fault

-- ---- a run

-- this fault ended the run, told or not
abbrev pub IsEndedBy : Fault → Outcome → Type 0
IsEndedBy fault outcome = (outcome ≡ Told fault) ⊎ (outcome ≡ Untold fault)

-- wherever a fault ended the run that isn't the output's
abbrev pub UnlessOutput : Outcome → Type 0 → Type 0
UnlessOutput outcome P = (fault : Fault) → fault ≢ told.Output → IsEndedBy fault outcome → P

-- a reader and two writers, as one
abbrev pub streams_of : {R W E : Type 0} → R → W → E → Streams R W E
streams_of script out err = record { script = script; out = out; err = err }

-- What a run promises over its streams.
pub record Runs {R W E : Type 0} (EndsSo : Known → Known → Known → Known → Known → Outcome → Type 0) (IsLive MayRead : Type 0)
    (streams : Streams (Stream R) (Stream W) (Stream E)) (result : Outcome) : Type 0 where
  -- what is asked for was answered on the writer, or a fault that may end it was told on the other one
  pub outcome : EndsSo (known_before streams.script) (known_before streams.out) (known_after streams.out) (known_before streams.err) (known_after streams.err) result
  -- only where the output failed, or for a live service, is anything printed before a fault
  pub untouched : ¬ IsLive → UnlessOutput result (streams.out.new ≡ streams.out.old)
  -- what the reader gives is left alone, but for a service
  pub unread : ¬ MayRead → streams.script.new ≡ streams.script.old

-- so runs what these words ask for
abbrev pub RunsWords : {D R W E : Type 0} → DeviceUse D → (List Put → Type 0) → List Text → Streams (Stream R) (Stream W) (Stream E) → Outcome → Type 0
RunsWords devices put words streams result =
    Runs (λ given before after told_before told_after outcome. IsOutcome devices.model devices.done put words given before after told_before told_after outcome)
    (AskLive words) (AskService words) streams result

-- and a task
abbrev pub RunsTask : {D R W E : Type 0} → DeviceUse D → (List Put → Type 0) → Task → Streams (Stream R) (Stream W) (Stream E) → Outcome → Type 0
RunsTask devices put task streams result =
    Runs (λ given before after told_before told_after outcome. IsOutcomeOf devices.model devices.done put task given before after told_before told_after outcome)
    (IsLiveService task) (IsService task) streams result

-- and a live service
abbrev pub RunsLive : {D R W E : Type 0} → DeviceUse D → Service → Streams (Stream R) (Stream W) (Stream E) → Outcome → Type 0
RunsLive devices service streams result =
    IsLiveOutcome devices.model devices.done service.device.now (known_before streams.script) service.config.editors service.words
    (known_before streams.out) (known_after streams.out) (known_before streams.err) (known_after streams.err) result

-- no file was put, but by `tables` and for a live service
abbrev pub PutsOnlyAsked : {T : Type 0} → List Text → (T → List Put) → T → T → Type 0
PutsOnlyAsked words puts old new = ¬ AskTables words → ¬ AskLive words → puts new ≡ puts old

-- no device was made for a backup, but for a live service
abbrev pub MakesOnlyLive : {N D : Type 0} → List Text → (N → List (Making D)) → N → N → Type 0
MakesOnlyLive words events old new = ¬ AskLive words → events new ≡ events old

-- What the exit status of a run says: `Answers` of what is printed by a task that ends so, and `MayFail` of the faults that may end it.
pub record Says {D R W : Type 0} (done : Doing D) (words : List Text) (Answers : Task → Known → Ended → Known → Known → Type 0) (MayFail : Task → Known → Known → Known → Fault → Type 0)
    (script : Stream R) (out : Stream W) (code : ℕ) : Type 0 where
  -- there are three of them
  pub status : code ≤ 2
  -- 0: the answer was printed
  pub answered : code ≡ 0 → OfTask words (λ task. Answers task (known_before script) Done (known_before out) (known_after out))
  -- 1: the answer is no, or one of the faults of the words' task ended the run; only where the output failed may a part be printed.
  -- A live service has printed answers by then.
  pub refused : code ≡ 1 → OfTask words (λ task. Answers task (known_before script) Refused (known_before out) (known_after out))
      ⊎ ((fault : Fault) × ¬ IsNotUnderstood fault × IsFaultBy done words (λ task why. MayFail task (known_before script) (known_before out) (known_after out) why) fault
      × (¬ AskLive words → fault ≢ told.Output → out.new ≡ out.old))
  -- 2: words and scripts that aren't understood print nothing, and the fault says so
  pub not_understood : code ≡ 2 → (¬ AskLive words → out.new ≡ out.old)
      × ((fault : Fault) × IsNotUnderstood fault × IsFaultBy done words (λ task why. MayFail task (known_before script) (known_before out) (known_after out) why) fault)
  -- what the reader gives is left alone, but for a service
  pub unread : ¬ AskService words → script.new ≡ script.old

-- so it is of any task
abbrev pub SaysAll : {D R W : Type 0} → DeviceUse D → (List Put → Type 0) → List Text → Stream R → Stream W → ℕ → Type 0
SaysAll devices put words = Says devices.done words (PrintedFor devices.model devices.done put) (MayEnd devices.model devices.done put)

-- The same in four: words ask for one command, and of the commands of the others each of these says nothing. First of those that put no files;
abbrev pub SaysAlone : {D R W : Type 0} → DeviceUse D → List Text → Stream R → Stream W → ℕ → Type 0
SaysAlone devices words = Says devices.done words (λ task given. PrintedAlone devices.model devices.done task) (λ task given old new. MayEndAlone devices.model devices.done task)

-- .. then of `tables`
abbrev pub SaysTables : {D R W : Type 0} → DeviceUse D → (List Put → Type 0) → List Text → Stream R → Stream W → ℕ → Type 0
SaysTables devices put words = Says devices.done words (λ task given. PrintedTables devices.model devices.done put task) (λ task given old new. MayEndTables devices.model devices.done put task)

-- A fault ended what these words ask for: memory ran out while they were read, and no device was opened, or the service ended by it.
abbrev pub IsServingFault : {D : Type 0} → Ghosts D → Doing D → List Text → Known → Known → Known → Fault → Type 0
IsServingFault model done words given old new fault = (done [] × (fault ≡ told.Memory)) ⊎ OfTask words (λ task. MayEndServing model done task given old new fault)

-- .. and last of `serve`. Of words that are no task, and of what the reader gives, the first one speaks. With 0 its answer was printed;
abbrev pub SaysServing : {D R W : Type 0} → DeviceUse D → List Text → Stream R → Stream W → ℕ → Type 0
SaysServing devices words script out code =
    code ≡ 0 → OfTask words (λ task. PrintedServing devices.model devices.done task (known_before script) Done (known_before out) (known_after out))

-- .. with another status a fault ended it, where the words ask for it
pub record StopsServing {D R W : Type 0} (devices : DeviceUse D) (words : List Text) (script : Stream R) (out : Stream W) (code : ℕ) : Type 0 where
  pub refused : code ≡ 1 → AskService words → (fault : Fault) × ¬ IsNotUnderstood fault × IsServingFault devices.model devices.done words (known_before script) (known_before out) (known_after out) fault × (¬ AskLive words → fault ≢ told.Output → out.new ≡ out.old)
  pub not_understood : code ≡ 2 → AskService words → (fault : Fault) × IsNotUnderstood fault × IsServingFault devices.model devices.done words (known_before script) (known_before out) (known_after out) fault

-- What a command promises: what is printed, which fault ends it, and what it leaves alone.
use Rattle.std.specs.Prelude.{◌≡◌, ◌⊎◌, ℕ, List, [], Result, IsErrOf, IsOkAnd}
use Rattle.std.specs.Io.KnownBytes.{Appends}
use Rattle.disk_trait.specs.Disk.{DiskView, IsSameDevice}
use Rattle.command_line.specs.declared.task.Task.{Task}
use Rattle.command_output.specs.Printing.{Ends}
use Rattle.command_output.specs.declared.ended.Ended.{Ended}
use Rattle.command_output.specs.declared.fault.Fault.{Fault}
use Rattle.command_output.specs.declared.fault.Fault.TheVariants as told
use Rattle.schemes.specs.declared.parts.Parts.{Parts}
use Rattle.table_files.specs.Files.{Put}
use Rattle.table_files.specs.Tables.{AnswersTables, EndsPutting}
use Rattle.file_commands.specs.declared.on_device.Transfer.{Transfer}
use Rattle.file_commands.specs.Devices.{Ending, EndsBy, OfOpened, Printing}
use Rattle.file_commands.specs.Endings.{EndsOpened, EndsTransfer, IsTransferEnd, Leaves, LeavesTwo, MayEndAtRest, access_of, device_of}
use Rattle.file_commands.specs.Printed.{PrintedAtRest, PrintsOpened, PrintsTransfer, PrintsTwo}
use Rattle.file_commands.specs.Uses.{DeviceUse, Stream, Views}

-- ---- a command

-- so ends one that prints what was answered: it ends by that answer, and prints its text, or tells its fault
abbrev pub EndsAfter : {X W : Type 0} → Result X Fault → (X → Ended) → (X → List ℕ) → Stream W → Result Ended Fault → Type 0
EndsAfter answer ended_of text_of out result =
    Ends (λ ended before after. IsOkAnd answer (λ x. (ended ≡ ended_of x) × Appends before after (text_of x)))
    (λ fault. (fault ≡ told.Output) ⊎ IsErrOf answer fault) out.known out.old out.new result

-- A command on a device that is open ended so, between two views of it.
pub record EndsOn {W : Type 0} (LeavesSo : DiskView → DiskView → Type 0) (Prints : Printing) (MayFail : Ending) (device : Views)
    (out : Stream W) (result : Result Ended Fault) : Type 0 where
  pub ran : IsSameDevice device.old device.new
  -- whatever ended it, and at any moment
  pub leaves : LeavesSo device.old device.new
  pub ends : Ends (λ ended before after. Prints device.old device.new ended before after) (λ fault. MayFail device.old device.new fault)
      out.known out.old out.new result

-- and so a task on one device
abbrev pub EndsTaskOn : {W : Type 0} → (List Put → Type 0) → Task → Views → Stream W → Result Ended Fault → Type 0
EndsTaskOn put task device out result = EndsOn (Leaves task) (PrintsOpened put task) (EndsOpened put task) device out result

-- the same on the device by its path, which is opened and closed
abbrev pub EndsAt : {D W : Type 0} → DeviceUse D → (List Put → Type 0) → Task → Stream W → Result Ended Fault → Type 0
EndsAt devices put task out result =
    Ends (λ ended before after. OfOpened devices.model devices.done (device_of task) (access_of task) (λ disk left. Leaves task disk left × PrintsOpened put task disk left ended before after))
    (λ fault. EndsBy devices.model devices.done put (device_of task) (access_of task) (λ disk left why. Leaves task disk left × EndsOpened put task disk left why) fault)
    out.known out.old out.new result

-- `migrate` and `copy`, on two devices that are open
pub record EndsTransferOn {W : Type 0} (transfer : Transfer) (from to : Views) (out : Stream W) (result : Result Ended Fault) : Type 0 where
  pub ran : IsSameDevice from.old from.new × IsSameDevice to.old to.new
  pub leaves : LeavesTwo transfer from.old from.new to.old to.new
  pub ends : Ends (λ ended before after. PrintsTransfer transfer from.old to.old to.new ended before after)
      (λ fault. (fault ≡ told.Output) ⊎ IsTransferEnd transfer from.old from.new to.old to.new fault) out.known out.old out.new result

-- and on the devices by two paths
abbrev pub EndsTransferAt : {D W : Type 0} → DeviceUse D → Transfer → List ℕ → List ℕ → Stream W → Result Ended Fault → Type 0
EndsTransferAt devices transfer from_path to_path out result =
    Ends (λ ended before after. PrintsTwo devices.model devices.done transfer from_path to_path ended before after)
    (λ fault. EndsTransfer devices.model devices.done transfer from_path to_path fault) out.known out.old out.new result

-- and behind the search for a scheme: it was found, or it wasn't and nothing is put
abbrev pub EndsPutFound : {W : Type 0} → Result (ℕ × Parts) Fault → List ℕ → List ℕ → (List Put → Type 0) → Stream W → Result Ended Fault → Type 0
EndsPutFound answer folder named put out result =
    Ends (λ ended before after. IsOkAnd answer (λ found. AnswersTables found.1 found.1.generation folder named put ended before after))
    (λ fault. (IsErrOf answer fault × put []) ⊎ IsOkAnd answer (λ found. EndsPutting found.1 folder named put fault))
    out.known out.old out.new result

-- any task that is no service
abbrev pub EndsTask : {D W : Type 0} → DeviceUse D → (List Put → Type 0) → Task → Stream W → Result Ended Fault → Type 0
EndsTask devices put task out result =
    Ends (λ ended before after. PrintedAtRest devices.model devices.done put task ended before after) (λ fault. MayEndAtRest devices.model devices.done put task fault)
    out.known out.old out.new result

-- Which faults may end a task that is no service.
use Rattle.std.specs.Prelude.{◌≡◌, ◌≢◌, ◌<◌, ◌⊎◌, ℕ, List, [], ◌∷◌, Option, IsTrue, cond, length}
use Rattle.disk_trait.specs.declared.disk.Disk.{Ghosts}
use Rattle.disk_trait.specs.Disk.{DiskView, LeavesOnly, OnlyRead}
use Rattle.graph_edits.specs.declared.edits.Op.{Op}
use Rattle.layout_2.specs.Layout.{device_len}
use Rattle.layout_2.specs.Standing.{KeepsThrough, StandsFor}
use Rattle.migrate.specs.Moved.{MovesWholly}
use Rattle.schemes.specs.declared.parts.Parts.{Parts}
use Rattle.value_syntax.specs.Words.{IsWithin}
use Rattle.value_syntax.specs.declared.words.LandmarkWords.{LandmarkWords}
use Rattle.value_syntax.specs.declared.words.LandmarkWords.TheVariants.{Greatest, ZeroAt, Drawn}
use Rattle.command_output.specs.declared.fault.Fault.{Fault}
use Rattle.command_output.specs.declared.fault.Fault.TheVariants as told
use Rattle.device_commands.specs.Answer.{IsNew, state_after}
use Rattle.device_commands.specs.Edits.{IsPastLimits}
use Rattle.device_commands.specs.Openings.{IsEditFault, IsFormatFault, IsOpenFault, IsUnwrittenFault, OfContent, TellsOf}
use Rattle.device_commands.specs.Moves.{IsMoveFault, TellsOfOld}
use Rattle.file_commands.specs.Copies.{CopiesWholly}
use Rattle.command_line.specs.declared.task.Task.{Task}
use Rattle.command_line.specs.declared.task.Task.TheVariants.{Format, Show, Edit, Resume, Route, Check, Migrate, Copy, Serve, Tables}
use Rattle.file_commands.specs.declared.devices.Access.{Access}
use Rattle.file_commands.specs.declared.devices.Access.TheVariants.{ToRead, ToChange, Anew, Fresh}
use Rattle.file_commands.specs.declared.on_device.Transfer.{Transfer}
use Rattle.file_commands.specs.declared.on_device.Transfer.TheVariants as how
use Rattle.file_commands.specs.Devices.{Doing, EndsBy, Ending, IsAnswerOf, IsFileFault, OfFirst, OfTwo}
use Rattle.file_commands.specs.Events.{NotHad}
use Rattle.file_commands.specs.Queries.{LacksNode}
use Rattle.table_files.specs.Files.{Put}
use Rattle.file_commands.specs.SchemeAnswers.{IsSchemeBy}
use Rattle.table_files.specs.Tables.{EndsPutting}

-- landmark words that name nodes, of which a device may lack one
abbrev pub NamesNodes : LandmarkWords → Type 0
NamesNodes Greatest = ⊥
NamesNodes (ZeroAt nodes) = Unit {0}
NamesNodes (Drawn seed) = ⊥

-- ---- a task on one device

-- the path of a task's device; of `migrate` and `copy` the old one
abbrev pub device_of : Task → List ℕ
device_of (Format device nodes is_new) = device.now
device_of (Show device) = device.now
device_of (Edit device session ticket change) = device.now
device_of (Resume device session) = device.now
device_of (Route device pairs words) = device.now
device_of (Check device words) = device.now
device_of (Migrate device made) = device.now
device_of (Copy device made) = device.now
device_of (Serve device editors forwarders places live words) = device.now
device_of (Tables device folder nodes words) = device.now

-- how a task has it
abbrev pub access_of : Task → Access
access_of (Format device nodes is_new) = cond is_new Fresh Anew
access_of (Edit device session ticket change) = ToChange
access_of (Serve device editors forwarders places live words) = ToChange
access_of task = ToRead

-- the device was only read
abbrev pub IsOnlyRead : DiskView → DiskView → Type 0
IsOnlyRead disk left = IsTrue disk.keeps_model → OnlyRead disk left

-- At any moment of a change a crash leaves the state before it or the one after it.
abbrev pub ChangesWholly : ℕ → Option ℕ → List Op → DiskView → DiskView → Type 0
ChangesWholly session ticket change disk left =
    OfContent disk (λ state. KeepsThrough disk state
    → LeavesOnly disk left (λ image. StandsFor state image ⊎ StandsFor (state_after state session ticket change) image))

-- what a task does to its device, whatever ends it, and at any moment until it is closed
abbrev pub Leaves : Task → DiskView → DiskView → Type 0
Leaves (Format device nodes is_new) disk left = Unit {0}
Leaves (Edit device session ticket change) disk left = ChangesWholly session ticket change disk left
Leaves task disk left = IsOnlyRead disk left

-- at any moment a crash leaves on a new device nothing or the whole, where it had no front of this layout before
abbrev pub MakesWholly : Transfer → DiskView → DiskView → DiskView → Type 0
MakesWholly how.Migration from to to_left = MovesWholly from to to_left
MakesWholly how.Copy from to to_left = CopiesWholly from to to_left

-- and so a task of two devices leaves them
abbrev pub LeavesTwo : Transfer → DiskView → DiskView → DiskView → DiskView → Type 0
LeavesTwo transfer from from_left to to_left = IsOnlyRead from from_left × MakesWholly transfer from to to_left

-- ---- why a command on a device ends, which it has opened

-- the output failed, or this ends it
abbrev pub OrOutput : Ending → Ending
OrOutput MayFail disk left fault = (fault ≡ told.Output) ⊎ MayFail disk left fault

-- A device can't be formatted for so many nodes.
pub record IsFormatEnd (nodes : ℕ) (disk left : DiskView) (fault : Fault) : Type 0 where
  pub named : IsFormatFault nodes fault
  pub wrong_length : fault ≡ told.DeviceLength → length disk.content ≢ device_len
  pub device : fault ≡ told.Device → disk.failures < left.failures

-- A device is refused, or what was asked of it is: the fault is one of these, and it tells of the content.
pub record IsReadingEnd (Named : Fault → Type 0) (disk left : DiskView) (fault : Fault) : Type 0 where
  pub named : Named fault
  pub tells : IsTrue disk.keeps_model → TellsOf fault disk.content
  pub device : fault ≡ told.Device → disk.failures < left.failures

-- A change isn't made.
pub record IsEditEnd (session : ℕ) (ticket : Option ℕ) (change : List Op) (disk left : DiskView) (fault : Fault) : Type 0 where
  pub named : IsEditFault fault
  pub tells : IsTrue disk.keeps_model → TellsOf fault disk.content
  pub already_in : OfContent disk (λ state. fault ≡ told.AlreadyIn → ¬ IsNew state session ticket)
  pub worn : OfContent disk (λ state. fault ≡ told.Worn → IsPastLimits state session ticket change)
  pub device : fault ≡ told.Device → disk.failures < left.failures
  pub unwritten : IsTrue disk.keeps_model → IsUnwrittenFault fault → OnlyRead disk left
  -- unless the device failed, it stands for what it stood for, whatever a crash leaves from then on
  pub kept : OfContent disk (λ state. KeepsThrough disk state → fault ≢ told.Device → KeepsThrough left state)

-- the faults of landmark words for a graph, and of a scheme or a check of it under them
abbrev pub IsWordsFault : LandmarkWords → Fault → Type 0
IsWordsFault words told.Words = NamesNodes words
IsWordsFault words told.Memory = Unit {0}
IsWordsFault words fault = ⊥

-- and of routes between pairs of nodes
abbrev pub IsRouteFault : LandmarkWords → Fault → Type 0
IsRouteFault words told.NoNode = Unit {0}
IsRouteFault words fault = IsWordsFault words fault

-- the faults of a check of a device, or of its tables: those of the opening, and those of the words
abbrev pub IsCheckDeviceFault : LandmarkWords → Fault → Type 0
IsCheckDeviceFault words fault = IsOpenFault fault ⊎ IsWordsFault words fault

-- and of routes on one
abbrev pub IsRouteDeviceFault : LandmarkWords → Fault → Type 0
IsRouteDeviceFault words fault = IsOpenFault fault ⊎ IsRouteFault words fault

-- A question about a device's graph isn't answered: the words aren't understood only where they name a node that the state hasn't.
pub record IsAskingEnd (Named : LandmarkWords → Fault → Type 0) (asked : LandmarkWords) (disk left : DiskView) (fault : Fault) : Type 0 where
  pub reading : IsReadingEnd (Named asked) disk left fault
  pub not_within : OfContent disk (λ state. fault ≡ told.Words → ¬ IsWithin asked state.graph.nodes)

-- No scheme is checked.
abbrev pub IsCheckEnd : LandmarkWords → DiskView → DiskView → Fault → Type 0
IsCheckEnd asked disk left fault = IsAskingEnd IsCheckDeviceFault asked disk left fault

-- Routes aren't found: a node lacks only where the state has not both nodes of each pair.
pub record IsRouteEnd (pairs : List (ℕ × ℕ)) (asked : LandmarkWords) (disk left : DiskView) (fault : Fault) : Type 0 where
  pub asking : IsAskingEnd IsRouteDeviceFault asked disk left fault
  pub no_node : OfContent disk (λ state. fault ≡ told.NoNode → LacksNode asked pairs state.graph.nodes)

-- what a fault tells of the old device's content
abbrev pub TellsOfFirst : Transfer → Fault → List ℕ → Type 0
TellsOfFirst how.Migration fault content = TellsOfOld fault content
TellsOfFirst how.Copy fault content = TellsOf fault content

-- A device isn't brought over, or copied.
pub record IsTransferEnd (transfer : Transfer) (from from_left to to_left : DiskView) (fault : Fault) : Type 0 where
  pub named : IsMoveFault fault
  pub tells : IsTrue from.keeps_model → TellsOfFirst transfer fault from.content
  pub wrong_length : fault ≡ told.DeviceLength → length to.content ≢ device_len
  pub device : fault ≡ told.Device → (from.failures < from_left.failures) ⊎ (to.failures < to_left.failures)

-- No tables are asked of a scheme, and nothing is put; or the scheme is there, and some of them may be put by then.
abbrev pub IsTablesEnd : LandmarkWords → List ℕ → List ℕ → (List Put → Type 0) → DiskView → DiskView → Fault → Type 0
IsTablesEnd asked folder named put disk left fault =
    (put [] × IsCheckEnd asked disk left fault)
    ⊎ IsAnswerOf disk (λ state. (p : Parts) × IsSchemeBy state.graph state.count asked p × EndsPutting p folder named put fault)

-- which fault ends a task on one device that puts no files; the device is open
abbrev pub EndsAlone : Task → DiskView → DiskView → Fault → Type 0
EndsAlone (Format device nodes is_new) disk left fault = OrOutput (IsFormatEnd nodes) disk left fault
EndsAlone (Show device) disk left fault = OrOutput (IsReadingEnd IsOpenFault) disk left fault
EndsAlone (Edit device session ticket change) disk left fault = OrOutput (IsEditEnd session ticket change) disk left fault
EndsAlone (Resume device session) disk left fault = OrOutput (IsReadingEnd IsOpenFault) disk left fault
EndsAlone (Route device pairs words) disk left fault = OrOutput (IsRouteEnd pairs.items words) disk left fault
EndsAlone (Check device words) disk left fault = OrOutput (IsCheckEnd words) disk left fault
EndsAlone task disk left fault = ⊥

-- and any task on one device
abbrev pub EndsOpened : (List Put → Type 0) → Task → DiskView → DiskView → Fault → Type 0
EndsOpened put (Tables device folder nodes words) disk left fault = IsTablesEnd words folder.now nodes.items put disk left fault
EndsOpened put task disk left fault = EndsAlone task disk left fault

-- No device is brought over, or copied: one of the two can't be had, the output failed, or this ends it.
abbrev pub EndsTransfer : {D : Type 0} → Ghosts D → Doing D → Transfer → List ℕ → List ℕ → Fault → Type 0
EndsTransfer model done transfer old new fault =
    ((done (NotHad old ToRead ∷ []) ⊎ OfFirst done old new) × IsFileFault fault)
    ⊎ OfTwo model done old new (λ from from_left to to_left. LeavesTwo transfer from from_left to to_left × ((fault ≡ told.Output) ⊎ IsTransferEnd transfer from from_left to to_left fault))

-- ---- why a task ends

-- the faults that may end a task that is under way and is no service
abbrev pub MayEndAtRest : {D : Type 0} → Ghosts D → Doing D → (List Put → Type 0) → Task → Fault → Type 0
MayEndAtRest model done put (Migrate device made) fault = EndsTransfer model done how.Migration device.now made.now fault
MayEndAtRest model done put (Copy device made) fault = EndsTransfer model done how.Copy device.now made.now fault
MayEndAtRest model done put (Serve device editors forwarders places live words) fault = ⊥
MayEndAtRest model done put task fault = EndsBy model done put (device_of task) (access_of task) (λ disk left why. Leaves task disk left × EndsOpened put task disk left why) fault

-- so of one that puts no files
abbrev pub MayEndAlone : {D : Type 0} → Ghosts D → Doing D → Task → Fault → Type 0
MayEndAlone model done (Migrate device made) fault = EndsTransfer model done how.Migration device.now made.now fault
MayEndAlone model done (Copy device made) fault = EndsTransfer model done how.Copy device.now made.now fault
MayEndAlone model done (Serve device editors forwarders places live words) fault = Unit {0}
MayEndAlone model done (Tables device folder nodes words) fault = Unit {0}
MayEndAlone model done task fault =
    EndsBy model done (λ puts. Unit {0}) (device_of task) (access_of task) (λ disk left why. Leaves task disk left × EndsAlone task disk left why) fault

-- and of `tables`, and what was put by then
abbrev pub MayEndTables : {D : Type 0} → Ghosts D → Doing D → (List Put → Type 0) → Task → Fault → Type 0
MayEndTables model done put (Tables device folder nodes words) fault =
    EndsBy model done put device.now ToRead (λ disk left why. IsOnlyRead disk left × IsTablesEnd words folder.now nodes.items put disk left why) fault
MayEndTables model done put task fault = Unit {0}

-- How a command has its device, and what is said of a device that was opened and closed.
use Rattle.std.specs.Prelude.{◌≡◌, ◌⊎◌, ℕ, List, [], ◌∷◌, All}
use Rattle.disk_trait.specs.declared.disk.Disk.{Ghosts}
use Rattle.disk_trait.specs.Disk.{DiskView, IsSameDevice}
use Rattle.layout_2.specs.State.{State}
use Rattle.command_output.specs.Printing.{Known}
use Rattle.command_output.specs.declared.ended.Ended.{Ended}
use Rattle.command_output.specs.declared.fault.Fault.{Fault}
use Rattle.command_output.specs.declared.fault.Fault.TheVariants as told
use Rattle.device_commands.specs.Openings.{OfContent}
use Rattle.device_files.specs.DeviceFiles.{lock_of}
use Rattle.device_files.specs.declared.file.DeviceFile.{DeviceFile}
use Rattle.device_files.specs.declared.file.Lock.{Lock}
use Rattle.device_files.specs.declared.file.Lock.TheVariants.{Alone, Shared}
use Rattle.table_files.specs.Files.{Put}
use Rattle.file_commands.specs.Events.{Event, Opened, NotHad, Closed, IsOf}
use Rattle.file_commands.specs.declared.devices.Access.{Access}
use Rattle.file_commands.specs.declared.devices.Access.TheVariants.{ToRead, New, Fresh}

-- what a command prints that ends so: of what a device was and is, and of what stood on the writer and stands there
abbrev pub Printing : Type 1
Printing = DiskView → DiskView → Ended → Known → Known → Type 0

-- which fault ends it: of what a device was and is
abbrev pub Ending : Type 1
Ending = DiskView → DiskView → Fault → Type 0

-- ---- files

-- the lock of a file that is opened so
abbrev pub lock_for : Access → Lock
lock_for ToRead = Shared
lock_for access = Alone

-- a file that was opened so has this lock; that it is the one by the path no clause of a file says
abbrev pub IsFileOf : List ℕ → Access → DeviceFile → Type 0
IsFileOf path access file = lock_of file ≡ lock_for access

-- what was done with files of the system, each of which has its lock
abbrev pub AreFiles : List (Event DeviceFile) → Type 0
AreFiles done = All (IsOf IsFileOf) done

-- the faults of a file that is to be opened, made or locked
abbrev pub IsFileFault : Fault → Type 0
IsFileFault told.DeviceFile = Unit {0}
IsFileFault told.DeviceInUse = Unit {0}
IsFileFault fault = ⊥

-- the same of one that is asked for so; where it is made fresh also that a file stands there
abbrev pub IsAccessFault : Access → Fault → Type 0
IsAccessFault Fresh fault = (fault ≡ told.FileExists) ⊎ IsFileFault fault
IsAccessFault access fault = IsFileFault fault

-- ---- devices

-- what a run does with devices: `done events` says that just this was done, in this order
abbrev pub Doing : Type 0 → Type 1
Doing D = List (Event D) → Type 0

-- One device was opened by this path and closed, and nothing else was done with devices; this holds of what it was when it was opened and
-- of what it was when it was closed.
pub record OfOpened {D : Type 0} (model : Ghosts D) (done : Doing D) (path : List ℕ) (access : Access) (P : DiskView → DiskView → Type 0) : Type 0 where
  pub disk : D
  pub left : D
  pub did : done (Opened path access disk ∷ Closed left ∷ [])
  pub ran : IsSameDevice (model.view disk) (model.view left)
  pub holds : P (model.view disk) (model.view left)

-- Two devices were opened and closed, the first to read it, the second made new.
pub record OfTwo {D : Type 0} (model : Ghosts D) (done : Doing D) (old new : List ℕ) (P : DiskView → DiskView → DiskView → DiskView → Type 0) : Type 0 where
  pub from : D
  pub to : D
  pub from_left : D
  pub to_left : D
  pub did : done (Opened old ToRead from ∷ Opened new New to ∷ Closed from_left ∷ Closed to_left ∷ [])
  pub ran : IsSameDevice (model.view from) (model.view from_left) × IsSameDevice (model.view to) (model.view to_left)
  pub holds : P (model.view from) (model.view from_left) (model.view to) (model.view to_left)

-- The second of two can't be had: the first was opened, and closed as it was.
abbrev pub OfFirst : {D : Type 0} → Doing D → List ℕ → List ℕ → Type 0
OfFirst {D} done old new = (from : D) × done (Opened old ToRead from ∷ NotHad new New ∷ Closed from ∷ [])

-- A fault of a command on one device: the device can't be had, and no file was put; or it was opened, and this ends the command.
abbrev pub EndsBy : {D : Type 0} → Ghosts D → Doing D → (List Put → Type 0) → List ℕ → Access → Ending → Fault → Type 0
EndsBy model done put path access MayFail fault =
    (done (NotHad path access ∷ []) × put [] × IsAccessFault access fault) ⊎ OfOpened model done path access (λ disk left. MayFail disk left fault)

-- An answer of the state for which a device's content stands; where it stands for none, or nothing is known of it, of some state.
pub record IsAnswerOf (disk : DiskView) (P : State → Type 0) : Type 0 where
  pub of_one : (state : State) × P state
  pub of_this : OfContent disk P

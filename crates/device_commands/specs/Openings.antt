-- Why a device isn't formatted or opened, and a change isn't made.
use Rattle.std.specs.Prelude.{◌≡◌, ◌⊎◌, ◌≤◌, ◌<◌, ℕ, List, Result, IsTrue, IfErr, IfOk, IsErrOf}
use Rattle.graph_edits.specs.Edges.{most_nodes}
use Rattle.disk_trait.specs.Disk.{DiskView, IsSameDevice, OnlyRead}
use Rattle.requests.specs.Tickets.{last_of}
use Rattle.layout_reader.specs.declared.refusals.OpenRefused.{OpenRefused}
use Rattle.layout_reader.specs.declared.refusals.OpenRefused.TheVariants.{NotFormatted as OpenNotFormatted, BadVersion, Damaged as OpenDamaged, Device as OpenDevice, Memory as OpenMemory}
use Rattle.layout_reader.specs.Refusals.{LacksMagic}
use Rattle.layout_2.specs.Fronts.{HasOtherVersion, HasThisVersion}
use Rattle.layout_2.specs.State.{State}
use Rattle.layout_2.specs.Standing.{StandsFor, StandsForNone}
use Rattle.command_output.specs.Lines.{listing_text}
use Rattle.command_output.specs.declared.fault.Fault.{Fault}
use Rattle.command_output.specs.declared.fault.Fault.TheVariants.{NodeCount, DeviceLength, NotFormatted, LayoutNotKnown, Damaged, Device, Memory, NoThread, Internal, Worn, AlreadyIn}

-- where a device keeps the model, this holds of the state for which its content stands
abbrev pub OfContent : DiskView → (State → Type 0) → Type 0
OfContent disk P = IsTrue disk.keeps_model → (state : State) → StandsFor state disk.content → P state

-- the faults of formatting a device for so many nodes
abbrev pub IsFormatFault : ℕ → Fault → Type 0
IsFormatFault nodes NodeCount = ¬ ((1 ≤ nodes) × (nodes ≤ most_nodes))
IsFormatFault nodes DeviceLength = Unit {0}
IsFormatFault nodes Device = Unit {0}
IsFormatFault nodes fault = ⊥

-- what is told of an opening that is refused
abbrev pub open_fault : OpenRefused → Fault
open_fault OpenNotFormatted = NotFormatted
open_fault BadVersion = LayoutNotKnown
open_fault OpenDamaged = Damaged
open_fault OpenDevice = Device
open_fault OpenMemory = Memory

-- what a fault tells of a device's content: by these three that it stands for no state, and which front it has
abbrev pub TellsOf : Fault → List ℕ → Type 0
TellsOf NotFormatted content = LacksMagic content × StandsForNone content
TellsOf LayoutNotKnown content = HasOtherVersion content × StandsForNone content
TellsOf Damaged content = HasThisVersion content × StandsForNone content
TellsOf fault content = Unit {0}

-- the faults of an opening
abbrev pub IsOpenFault : Fault → Type 0
IsOpenFault NotFormatted = Unit {0}
IsOpenFault LayoutNotKnown = Unit {0}
IsOpenFault Damaged = Unit {0}
IsOpenFault Device = Unit {0}
IsOpenFault Memory = Unit {0}
IsOpenFault fault = ⊥

-- the faults of an outcome that tells no verdict
abbrev pub IsOutcomeFault : Fault → Type 0
IsOutcomeFault Memory = Unit {0}
IsOutcomeFault Internal = Unit {0}
IsOutcomeFault fault = ⊥

-- the faults of a change on its way into the queue
abbrev pub IsQueueFault : Fault → Type 0
IsQueueFault NoThread = Unit {0}
IsQueueFault fault = IsOutcomeFault fault

-- the faults of a change on a device that is open
abbrev pub IsDeskFault : Fault → Type 0
IsDeskFault Device = Unit {0}
IsDeskFault Worn = Unit {0}
IsDeskFault fault = IsQueueFault fault

-- the faults of a change under a ticket
abbrev pub IsChangeFault : Fault → Type 0
IsChangeFault AlreadyIn = Unit {0}
IsChangeFault fault = IsDeskFault fault

-- the faults of a change on a device: those of the opening, and those of the change
abbrev pub IsEditFault : Fault → Type 0
IsEditFault fault = IsOpenFault fault ⊎ IsChangeFault fault

-- the faults of an edit behind which the device was only read
abbrev pub IsUnwrittenFault : Fault → Type 0
IsUnwrittenFault NotFormatted = Unit {0}
IsUnwrittenFault LayoutNotKnown = Unit {0}
IsUnwrittenFault Damaged = Unit {0}
IsUnwrittenFault NoThread = Unit {0}
IsUnwrittenFault AlreadyIn = Unit {0}
IsUnwrittenFault Worn = Unit {0}
IsUnwrittenFault fault = ⊥

-- a device that was opened, asked and given back: it was only read, and a refusal tells of its content or of its failures
pub record IsReading {X : Type 0} (old new : DiskView) (answer : Result X Fault) : Type 0 where
  pub tells : IsTrue old.keeps_model → IfErr answer (λ fault. TellsOf fault old.content)
  pub device : IsErrOf answer Device → old.failures < new.failures
  pub reads : IsTrue old.keeps_model → OnlyRead old new
  pub ran : IsSameDevice old new

-- No store was opened: a fault tells why, and the device, which was only read, comes back.
pub record TellsNotOpened (disk left : DiskView) (told : Fault) : Type 0 where
  pub fault : IsOpenFault told
  pub tells : IsTrue disk.keeps_model → TellsOf told disk.content
  pub device : told ≡ Device → disk.failures < left.failures
  pub reads : IsTrue disk.keeps_model → OnlyRead disk left
  pub ran : IsSameDevice disk left

-- What a device was asked and answers: of the state for which it stands, and it is only read.
pub record AnswersOf {X : Type 0} (IsAnswer : State → X → Type 0) (disk left : DiskView) (result : Result X Fault) : Type 0 where
  -- where it doesn't keep the model, the answer is that of a state too
  pub of_one : IfOk result (λ answer. (state : State) × IsAnswer state answer)
  pub of_content : OfContent disk (λ state. IfOk result (IsAnswer state))
  pub faults : IfErr result IsOpenFault
  pub reading : IsReading disk left result

-- the text is the listing of a state
abbrev pub IsListing : State → List ℕ → Type 0
IsListing state text = text ≡ listing_text state.count state.graph

-- the ticket is a session's last one in a state
abbrev pub IsLastTicket : ℕ → State → ℕ → Type 0
IsLastTicket session state ticket = ticket ≡ last_of state.tickets session

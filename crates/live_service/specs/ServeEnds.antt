-- The faults of a service, and what they tell of its device.
use Rattle.std.specs.Prelude.{◌≡◌, Option, IfSome, IsSome, IsTrue}
use Rattle.disk_trait.specs.declared.disk.Disk.{Ghosts}
use Rattle.disk_trait.specs.Disk.{DiskView, IsSameDevice, OnlyRead}
use Rattle.layout_2.specs.State.{State}
use Rattle.layout_2.specs.Standing.{StandsFor}
use Rattle.command_output.specs.declared.fault.Fault.{Fault}
use Rattle.command_output.specs.declared.fault.Fault.TheVariants as told
use Rattle.device_commands.specs.Openings.{IsOpenFault, TellsOf}
use Rattle.value_syntax.specs.Words.{IsWithin}
use Rattle.value_syntax.specs.declared.words.LandmarkWords.{LandmarkWords}
use Rattle.committer_thread.specs.Kept.{HasFailed}
use Rattle.service_actors.specs.declared.stop_cause.StopCause.{StopCause}
use Rattle.service_actors.specs.declared.stop_cause.StopCause.TheVariants as cause

-- what is told of threads that stopped
abbrev pub told_fault : StopCause → Fault
told_fault cause.Device = told.Device
told_fault cause.Worn = told.Worn
told_fault cause.Memory = told.Memory
told_fault cause.Board = told.Memory
told_fault cause.NoThread = told.NoThread
told_fault cause.Internal = told.Internal

-- the faults of a service
abbrev pub IsServeFault : Fault → Type 0
IsServeFault told.NotFormatted = Unit {0}
IsServeFault told.LayoutNotKnown = Unit {0}
IsServeFault told.Damaged = Unit {0}
IsServeFault told.Words = Unit {0}
IsServeFault told.Device = Unit {0}
IsServeFault told.Worn = Unit {0}
IsServeFault told.Memory = Unit {0}
IsServeFault told.NoThread = Unit {0}
IsServeFault told.Internal = Unit {0}
IsServeFault told.Output = Unit {0}
IsServeFault fault = ⊥

-- the faults of a service whose device was opened
abbrev pub IsLater : Fault → Type 0
IsLater told.Device = Unit {0}
IsLater told.Worn = Unit {0}
IsLater told.Memory = Unit {0}
IsLater told.NoThread = Unit {0}
IsLater told.Internal = Unit {0}
IsLater told.Output = Unit {0}
IsLater fault = ⊥

-- the faults of a device that was refused, or whose nodes the words don't fit
abbrev pub IsOpeningFault : Fault → Type 0
IsOpeningFault told.NotFormatted = Unit {0}
IsOpeningFault told.LayoutNotKnown = Unit {0}
IsOpeningFault told.Damaged = Unit {0}
IsOpeningFault told.Words = Unit {0}
IsOpeningFault fault = ⊥

-- the faults by which a service doesn't begin: those of an opening, and that the words name a node which the device hasn't
abbrev pub IsStartFault : Fault → Type 0
IsStartFault told.Words = Unit {0}
IsStartFault fault = IsOpenFault fault

-- A service's device was refused: a fault tells why, and the device, which was only read, comes back.
pub record IsRefusedFor (asked : LandmarkWords) (disk left : DiskView) (fault : Fault) : Type 0 where
  pub named : IsStartFault fault
  pub tells : IsTrue disk.keeps_model → TellsOf fault disk.content
  -- the landmark words don't fit the nodes of the state for which the device stands
  pub words : IsTrue disk.keeps_model → (state : State) → StandsFor state disk.content → fault ≡ told.Words → ¬ IsWithin asked state.graph.nodes
  -- where it doesn't keep the model, they don't fit those of a state
  pub of_one : fault ≡ told.Words → (state : State) × ¬ IsWithin asked state.graph.nodes
  pub device : fault ≡ told.Device → HasFailed disk left
  pub reads : IsTrue disk.keeps_model → OnlyRead disk left
  pub ran : IsSameDevice disk left

-- What a fault that ended a service under these words tells of its device, and what is left of that.
pub record IsServeEnd {D : Type 0} (model : Ghosts D) (disk : D) (asked : LandmarkWords) (back : Option D) (fault : Fault) : Type 0 where
  pub named : IsServeFault fault
  -- whatever the fault, the device came back
  pub given_back : IsSome back
  -- that its content stands for no state, by its front
  pub tells : IsTrue (model.view disk).keeps_model → TellsOf fault (model.view disk).content
  -- that the words name a node which it hasn't; also of a disk that doesn't keep the model, one which a state hasn't
  pub not_within : IsTrue (model.view disk).keeps_model → (state : State) → StandsFor state (model.view disk).content → fault ≡ told.Words → ¬ IsWithin asked state.graph.nodes
  pub of_one : fault ≡ told.Words → (state : State) × ¬ IsWithin asked state.graph.nodes
  -- one that was refused was only read
  pub refused : IsTrue (model.view disk).keeps_model → IsOpeningFault fault → IfSome back (λ d. OnlyRead (model.view disk) (model.view d))
  -- one whose failure is the fault has failed
  pub device : fault ≡ told.Device → IfSome back (λ d. HasFailed (model.view disk) (model.view d))

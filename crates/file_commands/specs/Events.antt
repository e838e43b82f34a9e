-- What is done at a place of devices.
use Rattle.std.specs.Prelude.{◌≡◌, ◌++◌, ℕ, List, All, map}
use Rattle.file_commands.specs.declared.device_log.DeviceLog.{DeviceLog}
use Rattle.file_commands.specs.declared.device_log.Done.{Done}
use Rattle.file_commands.specs.declared.device_log.Done.TheVariants as done
use Rattle.file_commands.specs.declared.devices.Access.{Access}

-- a device was opened by a path; it couldn't be had; or a device was closed, and this is what it was then
pub data Event (D : Type 0) : Type 0 where
  Opened : List ℕ → Access → D → Event D
  NotHad : List ℕ → Access → Event D
  Closed : D → Event D

-- an entry of a list for contracts
abbrev pub event_of : {D : Type 0} → Done D → Event D
event_of (done.Opened path access device) = Opened path.items access device.value
event_of (done.NotHad path access) = NotHad path.items access
event_of (done.Closed device) = Closed device.value

-- all that is on it
abbrev pub events_in : {D : Type 0} → DeviceLog D → List (Event D)
events_in log = map event_of log.done.items

-- which devices openings by paths give
abbrev pub Opening : Type 0 → Type 1
Opening D = List ℕ → Access → D → Type 0

-- where a device was opened, it is such a one
abbrev pub IsOf : {D : Type 0} → Opening D → Event D → Type 0
IsOf opened (Opened path access device) = opened path access device
IsOf opened (NotHad path access) = Unit {0}
IsOf opened (Closed device) = Unit {0}

-- At a place of devices just this was done, in this order.
pub record HasDone {F D : Type 0} (opened : Opening D) (events : F → List (Event D)) (old new : F) (done : List (Event D)) : Type 0 where
  pub listed : events new ≡ events old ++ done
  pub each : All (IsOf opened) done

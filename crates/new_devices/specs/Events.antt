-- What is done at a place of new devices.
use Rattle.std.specs.Prelude.{◌≡◌, ◌⊎◌, ℕ, List, IsTrue, codes, map}
use Rattle.disk_trait.specs.Disk.{DiskView, MayLeave}
use Rattle.disk_trait.specs.Image.{zeros}
use Rattle.new_devices.specs.declared.make_log.Done.{Done}
use Rattle.new_devices.specs.declared.make_log.Done.TheVariants as done
use Rattle.new_devices.specs.declared.make_log.MakeLog.{MakeLog}
use Rattle.new_devices.specs.declared.refused.BackupRefused.{BackupRefused}
use Rattle.new_devices.specs.declared.refused.BackupRefused.TheVariants.{FileExists, Full, Unusable, Memory, Device}

-- a device was made by a path, and this is what it was then; or one was let go, and this is what that was then
pub data FileEvent (D : Type 0) : Type 0 where
  Made : List ℕ → D → FileEvent D
  LetGo : D → FileEvent D

-- an entry of a list for contracts
abbrev pub event_of : {D : Type 0} → Done D → FileEvent D
event_of (done.Made path device) = Made path.items device.value
event_of (done.LetGo device) = LetGo device.value

-- all that is on it
abbrev pub events_in : {D : Type 0} → MakeLog D → List (FileEvent D)
events_in log = map event_of log.done.items

-- a disk that keeps the model has so many zeros, whatever a crash leaves of it
abbrev pub IsBlank : ℕ → DiskView → Type 0
IsBlank len disk = IsTrue disk.keeps_model → (image : List ℕ) → MayLeave disk image → image ≡ zeros len

-- why no device is made
abbrev pub IsUnmade : BackupRefused → Type 0
IsUnmade refused = (refused ≡ FileExists) ⊎ ((refused ≡ Full) ⊎ (refused ≡ Unusable))

-- what is told of a backup that isn't there
abbrev pub backup_refused_text : BackupRefused → List ℕ
backup_refused_text FileExists = codes "file exists"
backup_refused_text Full = codes "no space left"
backup_refused_text Unusable = codes "device file cannot be used"
backup_refused_text Memory = codes "out of memory"
backup_refused_text Device = codes "device failed"

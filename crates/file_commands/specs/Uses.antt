-- What a command uses: its devices, and the streams that it reads and writes.
use Rattle.disk_trait.specs.declared.disk.Disk.{Ghosts}
use Rattle.disk_trait.specs.Disk.{DiskView}
use Rattle.command_output.specs.Printing.{Known}
use Rattle.file_commands.specs.Devices.{Doing}

-- Devices: what is seen of one, and what was done with them.
pub record DeviceUse (D : Type 0) : Type 1 where
  pub model : Ghosts D
  pub done : Doing D

-- devices that are seen so, with which this was done
abbrev pub device_use : {D : Type 0} → Ghosts D → Doing D → DeviceUse D
device_use model done = record { model = model; done = done }

-- What was seen of a device that is open, before and after.
pub record Views : Type 1 where
  pub old : DiskView
  pub new : DiskView

-- of one that was seen as the first, and is seen as the second
abbrev pub views : DiskView → DiskView → Views
views old new = record { old = old; new = new }

-- A reader or a writer, before and after: what is known of it is what it gives, or what stands on it.
pub record Stream (S : Type 0) : Type 0 where
  pub known : S → Known
  pub old : S
  pub new : S

-- one of which this is known, before and after
abbrev pub stream : {S : Type 0} → (S → Known) → S → S → Stream S
stream known old new = record { known = known; old = old; new = new }

-- what is known of it before
abbrev pub known_before : {S : Type 0} → Stream S → Known
known_before used = used.known used.old

-- and after
abbrev pub known_after : {S : Type 0} → Stream S → Known
known_after used = used.known used.new

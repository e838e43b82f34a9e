-- A locked disk on a file, as contracts see it.
use Rattle.std.specs.Prelude.{IsTrue}
use Rattle.disk_trait.specs.Disk.{DiskView, MayLeave}
use Rattle.disk_trait.specs.FileWords.{file_view, file_present}
use Rattle.device_files.specs.declared.file.DeviceFile.{DeviceFile}
use Rattle.device_files.specs.declared.file.Lock.{Lock}

-- its lock
abbrev pub lock_of : DeviceFile → Lock
lock_of device = device.held.lock

-- it is the disk on its file
abbrev pub device_view : DeviceFile → DiskView
device_view device = file_view device.held.disk

pub device_present : (device : DeviceFile) → IsTrue (device_view device).keeps_model → MayLeave (device_view device) (device_view device).content
device_present device model = file_present device.held.disk model

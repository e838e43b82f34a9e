-- A disk on a file that is locked may go to another thread.
use denote.Builtin.{unit}
use denote.Param.Send.{IsSend, sendable}
use Rattle.std.proofs.Crossing.{crosses}
use Rattle.disk_trait.specs.contracts.file.FileDisk as disk
use Rattle.disk_trait.specs.contracts.log.Log as log
use Rattle.device_files.specs.contracts.file.DeviceFile as file

failures_send : IsSend (log.the_row unit)
failures_send = search (crosses, sendable) depth 40

disk_send : IsSend disk.the_row
disk_send = search (crosses, sendable, failures_send) depth 40

pub file_send : IsSend file.the_row
file_send = search (crosses, sendable, disk_send) depth 80 fits 50000

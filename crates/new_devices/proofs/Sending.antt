-- A place where no device can be made may go to another thread.
use denote.Param.Send.{IsSend, sendable}
use Rattle.std.proofs.Crossing.{crosses}
use Rattle.device_files.specs.contracts.file.DeviceFile as file
use Rattle.device_files.proofs.Sending.{file_send}
use Rattle.new_devices.specs.contracts.make_log.Done as done
use Rattle.new_devices.specs.contracts.make_log.MakeLog as make
use Rattle.new_devices.specs.contracts.none.NoDevices as none

done_send : IsSend (done.the_row file.the_row)
done_send = search (crosses, sendable, file_send) depth 80 fits 50000

log_send : IsSend (make.the_row file.the_row)
log_send = search (crosses, sendable, file_send, done_send) depth 80 fits 50000

pub none_send : IsSend none.the_row
none_send = search (crosses, sendable, log_send) depth 80 fits 50000

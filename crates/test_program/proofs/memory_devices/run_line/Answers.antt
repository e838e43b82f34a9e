use denote.Param.Send.{sendable}
use Rattle.std.proofs.Crossing.{crosses}
use Rattle.test_doubles.proofs.Sends.{memory_send}
use Rattle.device_files.proofs.Sending.{file_send}
use Rattle.new_devices.proofs.Sending.{none_send}
use Rattle.test_program.proofs.memory_devices.run_line.Goals as goal

pub new-at-requires-send-N : goal.new-at-requires-send-N
new-at-requires-send-N g c κs = search (crosses, sendable, none_send) depth 60

pub new-at-requires-send-F-Device : goal.new-at-requires-send-F-Device
new-at-requires-send-F-Device g c κs = search (crosses, sendable, memory_send) depth 60

pub run_on-outcome-requires-send-P-Devices-Device : goal.run_on-outcome-requires-send-P-Devices-Device
run_on-outcome-requires-send-P-Devices-Device g c κs within = search (crosses, sendable, memory_send) depth 60

pub run_on-outcome-requires-send-P-Backups : goal.run_on-outcome-requires-send-P-Backups
run_on-outcome-requires-send-P-Backups g c κs within = search (crosses, sendable, none_send) depth 60

pub run_on-outcome-requires-send-P-Backups-Device : goal.run_on-outcome-requires-send-P-Backups-Device
run_on-outcome-requires-send-P-Backups-Device g c κs within = search (crosses, sendable, file_send) depth 60

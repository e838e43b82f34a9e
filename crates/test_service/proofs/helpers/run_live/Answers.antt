use denote.Param.Send.{sendable}
use Rattle.std.proofs.Crossing.{crosses}
use Rattle.device_files.proofs.Sending.{file_send}
use Rattle.new_devices.proofs.Sending.{none_send}
use Rattle.test_service.proofs.helpers.run_live.Goals as goal

pub serve_live-served-requires-send-A-Devices : goal.serve_live-served-requires-send-A-Devices
serve_live-served-requires-send-A-Devices g c κs within = search (crosses, sendable, none_send) depth 60

pub serve_live-served-requires-send-A-Devices-Device : goal.serve_live-served-requires-send-A-Devices-Device
serve_live-served-requires-send-A-Devices-Device g c κs within = search (crosses, sendable, file_send) depth 60

use denote.Param.Send.{sendable}
use Rattle.std.proofs.Crossing.{crosses}
use Rattle.test_doubles.proofs.Sends.{memory_send}
use Rattle.test_service.proofs.helpers.plain_script.Goals as goal

pub run_script-requires-send-D : goal.run_script-requires-send-D
run_script-requires-send-D g c κs within = search (crosses, sendable, memory_send) depth 60

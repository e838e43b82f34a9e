use denote.Param.Send.{IsSend, IsSync, sendable}
use Rattle.std.proofs.Crossing.{crosses}
use Rattle.test_doubles.proofs.Sends.{hooked_send}
use Rattle.test_service.proofs.Sends.{file_send, put_send}
use Rattle.test_service.specs.contracts.stage.Signs as signs
use Rattle.test_service.proofs.tables.expect_held.Goals as goal

signs_sync : IsSync signs.the_row
signs_sync = search (crosses, sendable) depth 40

signs_send : IsSend signs.the_row
signs_send = search (crosses, sendable) depth 40

pub run_live-served-requires-send-D : goal.run_live-served-requires-send-D
run_live-served-requires-send-D g c κs within = search (crosses, sendable, hooked_send, signs_sync, signs_send) depth 60

pub run_live-served-requires-send-T : goal.run_live-served-requires-send-T
run_live-served-requires-send-T g c κs within = search (crosses, sendable, file_send, put_send, signs_sync, signs_send) depth 80 fits 50000

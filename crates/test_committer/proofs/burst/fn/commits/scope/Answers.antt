use denote.Param.Send.{sendable}
use Rattle.std.proofs.Crossing.{crosses}
use Rattle.new_devices.proofs.Sending.{none_send}
use Rattle.test_committer.proofs.burst.fn.commits.scope.Goals as goal

pub commit_beside-ended-requires-send-A-Devices : goal.commit_beside-ended-requires-send-A-Devices
commit_beside-ended-requires-send-A-Devices g c κs within = search (crosses, sendable, none_send) depth 60

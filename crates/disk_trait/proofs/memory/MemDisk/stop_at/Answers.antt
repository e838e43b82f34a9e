use Rattle.disk_trait.proofs.PlanLemmas.{stops_from}
use Rattle.disk_trait.proofs.memory.MemDisk.stop_at.Goals as goal

pub returns-clause-fails : goal.returns-clause-fails
returns-clause-fails c = rw c.arm.ensures.plan (stops_from c.args.call c.args.bytes)

use Rattle.disk_trait.proofs.PlanLemmas.{fails_once}
use Rattle.disk_trait.proofs.memory.MemDisk.fail_at.Goals as goal

pub returns-clause-fails : goal.returns-clause-fails
returns-clause-fails c = rw c.arm.ensures.plan (fails_once c.args.call)

use Rattle.std.proofs.Common.{rules}
use Rattle.live_service.proofs.Ended.{thread_early}
use Rattle.live_service.proofs.running.fn.start_engine.job.Goals as goal

pub returns-then-load : goal.returns-then-load
returns-then-load g c = thread_early g.B.BoardName.opening g.J.Stream c.captures.store (g.A.Device.Disk.view c.into_disk.result) c.requires.up (search rules)

use Rattle.event_laws.proofs.Acked.{acknowledged, prefix_holds, acknowledged_stay}
use Rattle.event_laws.proofs.queue.acknowledged_law.Goals as goal

pub returns : goal.returns
returns c = record { states = acknowledged; prefixes = prefix_holds; later = acknowledged_stay }

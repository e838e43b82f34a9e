use Rattle.event_laws.proofs.QueueLemmas.{asked_in_order, taken_in_order}
use Rattle.event_laws.proofs.queue.queue_law.Goals as goal

pub returns : goal.returns
returns c = record { asked = asked_in_order; taken = taken_in_order }

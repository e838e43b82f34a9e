use Rattle.event_laws.proofs.Tickets.{is_life, already_in, in_refused}
use Rattle.event_laws.proofs.queue.tickets_law.Goals as goal

pub returns : goal.returns
returns c = record { life = is_life; already_in = already_in; is_in = in_refused }

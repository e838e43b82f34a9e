use Rattle.event_laws.proofs.Listing.{begins, answers_on, rebuild_on, run_on, postings_lawful, postings_durable}
use Rattle.event_laws.proofs.queue.lists_law.Goals as goal

pub returns : goal.returns
returns c = record { begins = begins; answers = answers_on; rebuild = rebuild_on; run = run_on; lawful = postings_lawful; durable = postings_durable }

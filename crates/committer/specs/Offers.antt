-- What becomes of a posting that is offered.
use Rattle.std.specs.Prelude.{◌≡◌}
use Rattle.generations.specs.declared.posting.Notice.{Notice}
use Rattle.committer.specs.declared.outbox.Offered as offered
use Rattle.committer.specs.declared.outbox.Offered.TheVariants.{Posted, Due, Dropped}
use Rattle.committer.specs.Outboxes.{Outgoing, with_posted, with_due}

-- it is posted, it is due, or it was dropped and nothing changed
abbrev pub IsOffered : Outgoing → Notice → Outgoing → offered.Offered → Type 0
IsOffered old p new Posted = new ≡ with_posted old p
IsOffered old p new Due = new ≡ with_due old p
IsOffered old p new Dropped = new ≡ old

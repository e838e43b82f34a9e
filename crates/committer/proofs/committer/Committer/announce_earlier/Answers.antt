use Rattle.std.specs.Arc.{arc_value}
use Rattle.committer.proofs.Leading.{earlier_reached, earlier_serves}
use Rattle.committer.proofs.committer.Committer.announce_earlier.Goals as goal

pub offer_generation-requires-clause-reached : goal.offer_generation-requires-clause-reached
offer_generation-requires-clause-reached g c =
    let of = c.requires.earlier in
    earlier_reached _ _ _ _ of.at c.args.number c.args.self.now.led of.settled of.number_is

pub offer_generation-requires-clause-serves : goal.offer_generation-requires-clause-serves
offer_generation-requires-clause-serves g c =
    let of = c.requires.earlier in
    earlier_serves _ _ _ _ of.at c.args.number (arc_value c.args.scheme) c.args.self.now.led of.settled of.number_is of.serves

pub returns-clause-listed : goal.returns-clause-listed
returns-clause-listed g c = c.offer_generation.ensures.earlier _ c.requires.earlier

use Rattle.std.specs.Arc.{arc_value}
use Rattle.committer.proofs.Listings.{news_ahead, offered_listed}
use Rattle.committer.proofs.committer.Committer.announce.Goals as goal

pub offer_generation-requires-clause-ahead : goal.offer_generation-requires-clause-ahead
offer_generation-requires-clause-ahead g c = news_ahead _ _ _ _ _ _ _ c.args.number c.args.self.now.tied c.requires.number c.requires.news

pub returns-clause-listed : goal.returns-clause-listed
returns-clause-listed g c named builds first is =
    offered_listed first c.args.self.now c.offer_generation.new.self c.args.number (arc_value c.args.scheme) c.offer_generation.result c.offer_generation.ensures.stays c.offer_generation.ensures.posted c.offer_generation.ensures.only_board
    c.offer_generation.ensures.board c.requires.up c.requires.nothing_due c.requires.number c.requires.news named c.requires.serves is

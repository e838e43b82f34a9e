use Rattle.committer.proofs.Telling.{tied_tells}
use Rattle.committer.proofs.committer.Committer.told.Goals as goal

pub returns-clause-tells : goal.returns-clause-tells
returns-clause-tells g c = tied_tells _ _ _ _ _ c.args.self.now.outbox c.args.self.now.tied

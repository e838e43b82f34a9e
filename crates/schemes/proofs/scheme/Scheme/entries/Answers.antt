use Rattle.std.proofs.Common.{subst, sym, length}
use Rattle.schemes.specs.Laws.{AreTreesOf}
use Rattle.schemes.proofs.Serving.EntryCounts.{trees_of}
use Rattle.schemes.proofs.scheme.Scheme.entries.Goals as goal

pub returns-clause-trees : goal.returns-clause-trees
returns-clause-trees c = subst (λ z. AreTreesOf c.args.self.now c.args.x (length z)) (sym c.entries_of.ensures) (trees_of c.args.self.now c.args.x c.requires)

use Rattle.std.proofs.Common.{arith}
use Rattle.table_view.proofs.Halving.{lower, upper}
use Rattle.table_view.proofs.search.parted.Goals as goal

pub returns-then-there-root-clause-there : goal.returns-then-there-root-clause-there
returns-then-there-root-clause-there c =
    upper c.args.entries.now c.args.count c.args.root c.args.base c.args.size c.args.step c.requires.there (omega arith) (omega arith) (omega (arith, c.u16_in-there.ensures, c.if-there-root.true))

pub returns-else-there-root-clause-there : goal.returns-else-there-root-clause-there
returns-else-there-root-clause-there c =
    lower c.args.entries.now c.args.count c.args.root c.args.base c.args.size c.args.step c.requires.there (omega arith) (omega arith) (omega (arith, c.u16_in-there.ensures, c.if-there-root.false))

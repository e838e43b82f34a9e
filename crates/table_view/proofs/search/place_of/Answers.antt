use Rattle.std.proofs.Common.{arith}
use Rattle.table_view.proofs.search.place_of.Goals as goal

pub loop-size-smaller : goal.loop-size-smaller
loop-size-smaller c = c.parted-from.ensures.fewer (omega arith) (omega arith)

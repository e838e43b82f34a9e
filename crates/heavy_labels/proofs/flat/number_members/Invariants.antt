use Rattle.std.proofs.Common.{map}
use Rattle.heavy_labels.specs.FlatNumbers.{AreFlat}
use Rattle.heavy_labels.specs.Numbered.{seen}
use Rattle.heavy_labels.proofs.flat.number_members.Given as goal

abbrev pub invariant-loop-at : goal.invariant-loop-at
invariant-loop-at g l = AreFlat l.tree.members.now l.tree.above.now l.tree.heavy.now l.ahead.items l.at (map seen l.out.items)

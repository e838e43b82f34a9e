use Rattle.heavy_labels.specs.HeavyKids.{AreAheadTo, AreBeside}
use Rattle.heavy_labels.proofs.ahead.numbers_ahead.Given as goal

abbrev pub invariant-loop-j : goal.invariant-loop-j
invariant-loop-j g l = record { beside : AreBeside l.tree.members.now l.tree.by_node.now l.j l.beside.items; ahead : AreAheadTo l.tree.members.now l.tree.by_node.now l.j l.ahead.items }

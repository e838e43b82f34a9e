use Rattle.std.proofs.Common.{◌-◌, ◌≤◌, length}
use Rattle.graph_edits.specs.Rows.{place}
use Rattle.graph_edits.proofs.table.place_of.Given as goal

abbrev pub invariant-loop-low : goal.invariant-loop-low
invariant-loop-low g l = record { before : l.low ≤ place g.K.Ord.cmp l.key l.entries; after : place g.K.Ord.cmp l.key l.entries ≤ l.high; within : l.high ≤ length l.entries }

abbrev pub decreases-loop-low : goal.decreases-loop-low
decreases-loop-low g l = l.high - l.low

abbrev pub invariant-loop-low-2 : goal.invariant-loop-low-2
invariant-loop-low-2 g l = record { before : l.low ≤ place g.K.Ord.cmp l.key l.entries; after : place g.K.Ord.cmp l.key l.entries ≤ l.high; within : l.high ≤ length l.entries }

abbrev pub decreases-loop-low-2 : goal.decreases-loop-low-2
decreases-loop-low-2 g l = l.high - l.low

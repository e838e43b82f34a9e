use Rattle.std.proofs.Common.{◌-◌, map}
use Rattle.schemes.proofs.Basics.Searches.{IsNarrowed}
use Rattle.schemes.proofs.search.halve_between.Given as goal

abbrev pub invariant-loop-low : goal.invariant-loop-low
invariant-loop-low g l = IsNarrowed (map g.T.Keyed.key l.items) l.number (l.to - l.from) l.low l.high l.probes

abbrev pub decreases-loop-low : goal.decreases-loop-low
decreases-loop-low g l = l.high - l.low

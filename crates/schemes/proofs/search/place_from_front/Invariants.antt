use Rattle.std.proofs.Common.{map}
use Rattle.schemes.proofs.Basics.Searches.{IsPast}
use Rattle.schemes.proofs.search.place_from_front.Given as goal

abbrev pub invariant-loop-place : goal.invariant-loop-place
invariant-loop-place g l = IsPast (map g.T.Keyed.key l.items) l.number l.place

use Rattle.std.proofs.Common.{◌≡◌, All}
use Rattle.live_service.proofs.engine.forwarders.Given as goal

abbrev pub invariant-loop-readers : goal.invariant-loop-readers
invariant-loop-readers g l = All (λ r. r.all.opening ≡ g.B.BoardName.opening) l.readers.items

abbrev pub decreases-loop-readers : goal.decreases-loop-readers
decreases-loop-readers g l = l.readers.len

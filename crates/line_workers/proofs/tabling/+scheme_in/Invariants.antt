use Rattle.std.proofs.Common.{length}
use Rattle.line_workers.proofs.tabling.+scheme_in.Given as goal

abbrev pub decreases-scheme_in : goal.decreases-scheme_in
decreases-scheme_in l = length l.places.now

use Rattle.std.proofs.Common.{◌≡◌}
use Rattle.generations.specs.Beginnings.{GoesOn}
use Rattle.line_workers.proofs.tabling.newest_now.Given as goal

abbrev pub invariant-loop : goal.invariant-loop
invariant-loop g l =
    (goal.iterator-loop g).can_next l.iterator' × ((goal.iterator-loop g).is_finite l.iterator' × ((l.reader.all.opening ≡ g.B.BoardName.opening) × GoesOn l.fn.reader.all l.reader.all))

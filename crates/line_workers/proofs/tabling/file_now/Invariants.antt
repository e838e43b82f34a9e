use Rattle.generations.specs.Beginnings.{GoesOn}
use Rattle.line_workers.proofs.tabling.file_now.Given as goal

abbrev pub invariant-loop : goal.invariant-loop
invariant-loop g l =
    (goal.iterator-loop g).can_next l.iterator' × ((goal.iterator-loop g).is_finite l.iterator' × GoesOn l.fn.reader.all l.reader.all)

use Rattle.line_exchange.proofs.reading.read_each.Given as goal

abbrev pub invariant-loop : goal.invariant-loop
invariant-loop g l =
    (goal.iterator-loop g).can_next l.iterator' × ((goal.iterator-loop g).is_finite l.iterator' × g.L.LineSource.has_given l.source l.place)

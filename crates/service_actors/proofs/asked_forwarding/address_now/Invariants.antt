use Rattle.std.proofs.Common.{◌≡◌}
use Rattle.generations.specs.Beginnings.{GoesOn}
use Rattle.service_actors.proofs.asked_forwarding.address_now.Given as goal

abbrev pub invariant-loop : goal.invariant-loop
invariant-loop g l =
    (goal.iterator-loop g).can_next l.iterator' × ((goal.iterator-loop g).is_finite l.iterator' × ((l.forwarder.opening ≡ g.J.BoardName.opening) × GoesOn l.initial.forwarder l.forwarder))

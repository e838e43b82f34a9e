use Rattle.generations.specs.Beginnings.{GoesOn}
use Rattle.service_actors.specs.Forwarded.{IsOnWay}
use Rattle.service_actors.proofs.forwarding.carry.Given as goal

abbrev pub invariant-loop : goal.invariant-loop
invariant-loop g l =
    (goal.iterator-loop g).can_next l.iterator' × ((goal.iterator-loop g).is_finite l.iterator' × (GoesOn l.initial.forwarder l.forwarder
    × IsOnWay l.forwarder l.fn.trip.from l.fn.trip.to l.generation l.nodes.items l.at l.packet))

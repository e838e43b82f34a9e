use Rattle.std.proofs.Common.{drop}
use Rattle.single_route.proofs.WayPorts.{IsMeasuring}
use Rattle.single_route.proofs.ways.measured.Given as goal

abbrev pub invariant-loop-next : goal.invariant-loop-next
invariant-loop-next l = IsMeasuring l.graph l.initial.at l.rest (drop l.next-index l.rest) l.ports.items l.length l.at

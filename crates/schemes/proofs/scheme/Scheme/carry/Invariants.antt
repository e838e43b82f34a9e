use Rattle.std.proofs.Common.{◌≡◌}
use Rattle.schemes.specs.Checks.{distance_of}
use Rattle.schemes.specs.Tables.{tables}
use Rattle.schemes.specs.Trails.{IsUnderWay}
use Rattle.schemes.proofs.scheme.Scheme.carry.Given as goal

abbrev pub invariant-loop-trail : goal.invariant-loop-trail
invariant-loop-trail l = record {
  under_way : IsUnderWay (tables l.self) l.u l.to l.trail.nodes.items l.trail.ports.items l.trail.length l.at l.packet;
  here : l.here ≡ distance_of ((tables l.self).entry l.at l.packet.root);
}

abbrev pub decreases-loop-trail : goal.decreases-loop-trail
decreases-loop-trail l = l.packet.hops_left

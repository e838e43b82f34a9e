use Rattle.std.proofs.Common.{sym}
use Rattle.single_route.proofs.WayPorts.{has_port}
use Rattle.single_route.proofs.ways.hop.Goals as goal

pub unreachable-requires-in_default-port_to : goal.unreachable-requires-in_default-port_to
unreachable-requires-in_default-port_to c =
    let p = has_port c.args.graph.now c.nodes-sound.ensures.sound c.args.at c.args.next c.in-Some.weight (sym c.in-Some.ensures) in
    c.in_default-port_to.not-Some p.0 ((c.port_to.ensures p.0).1 p.1)

use Rattle.std.proofs.Common.{subst}
use Rattle.std.specs.Option.{IfSome}
use Rattle.distances.specs.Arrivals.{IsOverPort}
use Rattle.distances.proofs.Arrived.{port_both}
use Rattle.distances.proofs.reach.linked.Goals as goal

pub returns-in-Some-clause-ports : goal.returns-in-Some-clause-ports
returns-in-Some-clause-ports c =
    let over = subst (λ o. IfSome o (IsOverPort c.args.graph.now c.args.settled.node)) c.in-Some.is c.requires.port in
    (c.port_to.ensures, port_both c.args.graph.now c.in-Some.field-0.parent c.args.settled.node c.in-Some.field-0.down over)

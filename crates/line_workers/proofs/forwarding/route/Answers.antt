use Rattle.std.proofs.Common.{rules}
use Rattle.line_workers.proofs.SaidPackets.{route_said}
use Rattle.line_workers.proofs.forwarding.route.Goals as goal

pub returns-clause-answer : goal.returns-clause-answer
returns-clause-answer g c = record { fits = search rules; said = route_said c.route.new.self.forwarder c.args.from c.args.to c.in_ok-way.way c.in_ok-way.ensures.carried; off = λ gone. tt }

use Rattle.std.proofs.Common.{rules}
use Rattle.line_workers.proofs.SaidPackets.{hop_said, no_hop}
use Rattle.line_workers.proofs.forwarding.hop.Goals as goal

pub returns-in-Ok-clause-answer : goal.returns-in-Ok-clause-answer
returns-in-Ok-clause-answer g c = record { fits = tt; said = hop_said c.hop.new.self.forwarder c.args.at c.args.packet.now c.in-Ok.step (search rules); off = λ gone. absurd (cc) }

pub returns-in-Err-clause-answer : goal.returns-in-Err-clause-answer
returns-in-Err-clause-answer g c =
    no_hop c.hop.new.self.forwarder c.args.at c.args.packet.now c.in-Err.refused c.in_ok-step.ensures.some (search rules)

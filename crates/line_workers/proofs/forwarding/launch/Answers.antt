use Rattle.std.proofs.Common.{rules, ◌∙◌, sym}
use Rattle.line_workers.proofs.SaidPackets.{launch_said, no_launch}
use Rattle.line_workers.proofs.forwarding.launch.Goals as goal

pub returns-in-Ok-clause-answer : goal.returns-in-Ok-clause-answer
returns-in-Ok-clause-answer g c = record { fits = tt; said = launch_said c.launch.new.self.forwarder c.args.from c.args.to.now c.in-Ok.packet (search rules); off = λ gone. absurd (cc) }

pub returns-in-Err-clause-answer : goal.returns-in-Err-clause-answer
returns-in-Err-clause-answer g c =
    no_launch c.launch.new.self.forwarder c.args.from c.args.to.now c.in-Err.refused c.in_ok-packet.ensures.some (sym c.in-Err.is ∙ c.in_ok-packet.ensures.answer)

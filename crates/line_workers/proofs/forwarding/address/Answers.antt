use Rattle.std.proofs.Common.{rules}
use Rattle.line_workers.proofs.SaidPackets.{address_said, no_address_said}
use Rattle.line_workers.proofs.forwarding.address.Goals as goal

pub returns-in_default-Ok-clause-answer : goal.returns-in_default-Ok-clause-answer
returns-in_default-Ok-clause-answer g c = record { fits = search rules; said = address_said c.address.new.self.forwarder c.in_ok-generation.field-0.0 c.args.node _ (search rules); off = λ gone. tt }

pub returns-in_default-Err-NoNode-clause-answer : goal.returns-in_default-Err-NoNode-clause-answer
returns-in_default-Err-NoNode-clause-answer g c = record { fits = tt; said = no_address_said c.address.new.self.forwarder c.in_ok-generation.field-0.0 c.args.node (search rules); off = λ gone. tt }

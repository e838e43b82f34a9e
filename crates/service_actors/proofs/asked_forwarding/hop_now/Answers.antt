use Rattle.packet_ways.proofs.Newest.{some_newest_on}
use Rattle.service_actors.proofs.asked_forwarding.hop_now.Goals as goal

pub returns-in-Ok-clause-some : goal.returns-in-Ok-clause-some
returns-in-Ok-clause-some g c = some_newest_on c.look.new.forwarder c.hop.new.self c.in-Ok.ensures.kept c.in_ok-look.ensures.some

pub returns-in-Err-clause-some : goal.returns-in-Err-clause-some
returns-in-Err-clause-some g c = some_newest_on c.look.new.forwarder c.hop.new.self c.in-Err.ensures.kept c.in_ok-look.ensures.some

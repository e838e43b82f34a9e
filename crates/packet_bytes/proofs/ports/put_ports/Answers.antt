use Rattle.packet_bytes.proofs.Places.{ports_put}
use Rattle.packet_bytes.proofs.ports.put_ports.Goals as goal

pub returns-clause-text : goal.returns-clause-text
returns-clause-text g c = ports_put c.args.out.now.items c.args.ports.now c.loop-port.out.items c.put.new.out.items c.loop-port.port-index c.loop-port-test.false c.requires.few c.loop-port.invariant.text c.put.ensures.text

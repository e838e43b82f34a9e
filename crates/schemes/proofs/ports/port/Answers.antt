use Rattle.std.proofs.Common.{rules}
use Rattle.schemes.proofs.Basics.PortLemmas.{no_port, port_is}
use Rattle.schemes.proofs.ports.port.Goals as goal

pub returns-then-x-nodes : goal.returns-then-x-nodes
returns-then-x-nodes c = no_port c.args.graph.now c.nodes.ensures.sound c.args.x c.args.y (search rules)

pub returns : goal.returns
returns c = port_is c.args.graph.now c.args.x c.args.y c.port_to.result c.port_to.ensures

use Rattle.route_tree.proofs.Waiting.{hung_push}
use Rattle.route_tree.proofs.growth.hang.Goals as goal

pub returns : goal.returns
returns g c = hung_push c.args.slots.now.items c.args.place c.args.twig c.index_mut.result.now c.put.new.slot c.requires c.index_mut.ensures.value c.in_ok-put.ensures

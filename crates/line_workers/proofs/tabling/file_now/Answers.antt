use Rattle.generations.proofs.Sharing.{goes_trans}
use Rattle.line_workers.proofs.TablesPut.{looked_since, node_later}
use Rattle.line_workers.proofs.tabling.file_now.Goals as goal

pub look_for_file-back-requires : goal.look_for_file-back-requires
look_for_file-back-requires g c = node_later c.args.reader.all c.loop.reader.all c.args.generation c.args.node c.loop.invariant.1.1 c.requires

pub returns-in_default : goal.returns-in_default
returns-in_default g c = record {
  on = goes_trans c.args.reader.all c.loop.reader.all c.look_for_file-back.result.0.all c.loop.invariant.1.1 c.look_for_file-back.ensures.on;
  looked = looked_since c.args.reader.all c.loop.reader.all c.look_for_file-back.result.0.all c.args.generation c.args.folder.now c.args.node c.look_for_file-back.result.1 c.loop.invariant.1.1
      c.look_for_file-back.ensures.looked;
}

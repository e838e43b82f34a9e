use Rattle.std.proofs.Common.{arith}
use Rattle.heavy_labels.proofs.Left.{few}
use Rattle.heavy_labels.proofs.preorder.member_at.Goals as goal

pub overflow_cast-tree_record-2 : goal.overflow_cast-tree_record-2
overflow_cast-tree_record-2 g c = omega (arith, few c.args.twig.now c.args.first c.args.lights.now c.requires.room)

pub of-requires : goal.of-requires
of-requires g c = few c.args.twig.now c.args.first c.args.lights.now c.requires.room

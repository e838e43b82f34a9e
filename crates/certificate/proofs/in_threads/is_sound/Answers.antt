use Rattle.certificate.proofs.TreeLemmas.{trees_checked}
use Rattle.certificate.proofs.in_threads.is_sound.Goals as goal

pub returns-then-is_framed : goal.returns-then-is_framed
returns-then-is_framed g c t = trees_checked c.args.graph.now c.args.scheme.now c.is_framed.ensures.sound (c.is_framed.ensures.framed.0 c.if-is_framed.true) (c.are_all_right.ensures t)

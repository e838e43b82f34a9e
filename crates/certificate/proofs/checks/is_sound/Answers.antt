use Rattle.certificate.proofs.Words.{arith}
use Rattle.certificate.proofs.TreeLemmas.{trees_checked}
use Rattle.certificate.proofs.checks.is_sound.Goals as goal

pub returns-then-is_framed : goal.returns-then-is_framed
returns-then-is_framed c t = trees_checked c.args.graph.now c.args.scheme.now c.is_framed.ensures.sound (c.is_framed.ensures.framed.0 c.if-is_framed.true) (λ x l. c.are_trees_right.ensures t x (omega arith) (omega (arith, l, c.nodes.ensures.nodes)))

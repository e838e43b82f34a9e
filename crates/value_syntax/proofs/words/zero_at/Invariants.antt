use Rattle.std.proofs.Common.{take}
use Rattle.value_syntax.specs.Words.{AreZeroAt}
use Rattle.value_syntax.proofs.words.zero_at.Given as goal

abbrev pub invariant-loop-node : goal.invariant-loop-node
invariant-loop-node l = AreZeroAt (take l.node-index l.named) l.nodes l.words.items

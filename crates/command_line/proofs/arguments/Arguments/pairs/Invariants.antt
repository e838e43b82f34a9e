use Rattle.std.proofs.Common.{◌≡◌, ◌∷◌, ◌*◌, take}
use Rattle.command_line.specs.Asked.{nodes_of}
use Rattle.command_line.proofs.arguments.Arguments.pairs.Given as goal

abbrev pub invariant-loop-i : goal.invariant-loop-i
invariant-loop-i l = record { made : nodes_of l.pairs.items ≡ l.from ∷ l.to ∷ take (2 * l.i) l.more.items }

use Rattle.landmark_choice.specs.Choices.{IsChoice}
use Rattle.landmark_choice.proofs.choices.first_to_come.Given as goal

abbrev pub invariant-loop-node : goal.invariant-loop-node
invariant-loop-node l = IsChoice l.node l.most l.chosen.items

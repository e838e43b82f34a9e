use Rattle.std.proofs.Common.{◌<◌, length}
use Rattle.landmark_choice.proofs.choices.place_of_best.Given as goal

abbrev pub invariant-loop-place : goal.invariant-loop-place
invariant-loop-place l = l.best < length l.made

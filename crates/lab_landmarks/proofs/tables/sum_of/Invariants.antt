use Rattle.std.proofs.Common.{◌≡◌, sum, take}
use Rattle.lab_landmarks.specs.Sizes.{kept}
use Rattle.lab_landmarks.proofs.tables.sum_of.Given as goal

abbrev pub invariant-loop-number : goal.invariant-loop-number
invariant-loop-number l = l.all ≡ kept (sum (take l.number-index l.numbers))

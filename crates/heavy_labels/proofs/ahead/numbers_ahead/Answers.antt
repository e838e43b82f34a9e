use Rattle.std.proofs.Common.{arith}
use Rattle.std.proofs.lemmas.List.{places}
use Rattle.heavy_labels.proofs.AheadSteps.{none_ahead, none_beside}
use Rattle.heavy_labels.proofs.ahead.numbers_ahead.Goals as goal

pub loop-j-init : goal.loop-j-init
loop-j-init g c = record {
  beside = none_beside _ _ _ (grind (arith, places)) (λ k l. grind (arith, places));
  ahead = none_ahead _ _ _ (grind (arith, places));
}

use Rattle.std.proofs.Common.{rules, tests, arith, ◌∙◌}
use Rattle.std.proofs.lemmas.Iterator.{YieldsList-from_slice}
use Rattle.std.proofs.lemmas.Iterator.Consumers.{fold_from_yields_List}
use Rattle.crash_trials.specs.Stops.{stop_count}
use Rattle.crash_trials.proofs.StopLemmas.{counted, with_call}
use Rattle.crash_trials.proofs.stops.count_stops.Goals as goal

pub returns : goal.returns
returns c = fold_from_yields_List _ with_call 0 c.fold.result c.fold.ensures.ran (YieldsList-from_slice c.args.calls.now cc) (λ a x b q k. search (rules, tests)) ∙ counted c.args.calls.now 1 0 (stop_count c.args.calls.now) (omega arith)

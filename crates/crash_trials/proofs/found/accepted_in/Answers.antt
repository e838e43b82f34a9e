use Rattle.std.proofs.Common.{rules, tests, of_calls, arith, ◌<◌, ◌^◌}
use Rattle.std.proofs.lemmas.Iterator.{YieldsList-from_map, YieldsList-from_slice}
use Rattle.std.proofs.lemmas.Iterator.Consumers.{fits_by_from_yields_list, sum_by_from_yields_List}
use Rattle.event_model.specs.Answers.{number_of}
use Rattle.crash_trials.specs.Kinds.{accepted_by}
use Rattle.crash_trials.proofs.found.accepted_in.Goals as goal

pub sum-requires : goal.sum-requires
sum-requires c =
    let small : accepted_by c.args.replies.now < 2 ^ 64 = omega arith in
    record { can = search of_calls; finite = search of_calls; fits = fits_by_from_yields_list _ _ c.map.result _ (YieldsList-from_map _ number_of (YieldsList-from_slice c.args.replies.now cc) c.map.ensures.closure (λ x r q k. search (rules, tests))) small }

pub returns : goal.returns
returns c = sum_by_from_yields_List _ _ c.map.result _ c.sum.ensures.ran (YieldsList-from_map _ number_of (YieldsList-from_slice c.args.replies.now cc) c.map.ensures.closure (λ x r q k. search (rules, tests)))

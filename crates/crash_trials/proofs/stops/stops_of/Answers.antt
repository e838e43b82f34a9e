use Rattle.std.proofs.Common.{arith, rules, ◌∙◌, ◌<◌, append-nil, length}
use Rattle.std.proofs.lemmas.List.{drop_all, get_or_default, length-take, take_all}
use Rattle.crash_trials.proofs.StopLemmas.{one_call_more}
use Rattle.crash_trials.proofs.stops.stops_of.Goals as goal

pub loop-i-preserved : goal.loop-i-preserved
loop-i-preserved c =
    let lt : c.loop-i.i < length c.args.calls.now = c.loop-i-test.true in
    let more = one_call_more c.args.most c.args.calls.now c.loop-i.i _ c.loop-i.stops.items c.push_stops.new.stops.items lt (get_or_default c.args.calls.now c.loop-i.i _ _ lt) c.in_ok-push_stops.ensures in
    record { within = search (rules, arith, length-take); all = more ∙ c.loop-i.invariant.all }

pub returns : goal.returns
returns c = rw (drop_all c.loop-i.i c.args.calls.now c.loop-i-test.false, append-nil, take_all c.args.most c.loop-i.stops.items c.loop-i.invariant.within) at c.loop-i.invariant.all

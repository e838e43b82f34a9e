use Rattle.std.proofs.Common.{◌∙◌, sym, subst, ◌<◌, length}
use Rattle.std.specs.List.{AllByRecursion}
use Rattle.std.proofs.lemmas.List.{get_or_default, take_all}
use Rattle.std.proofs.lemmas.List.Elements.{All-from_recursion, All-push, recursion_from_All}
use Rattle.disk_trait.specs.contracts.memory.MemDiskDisk.TheImpl.{ghosts}
use Rattle.crash_trials.specs.Trials.{IsStopFound}
use Rattle.crash_trials.proofs.TrialLemmas.{alike_on, armed_alike, moved, one_more}
use Rattle.crash_trials.proofs.trial.try_stops.Goals as goal

pub loop-stop-preserved : goal.loop-stop-preserved
loop-stop-preserved g c =
    let i = c.loop-stop.invariant in
    let lt : c.loop-stop.stop-index < length c.args.stops.now = c.loop-stop-test.true in
    let first = c.args.rehearsal.now in
    let before = c.loop-stop.rehearsal in
    let this = moved ghosts first before c.in_ok-found.found i.alike c.in_ok-found.ensures.found in
    record {
      many = c.try_stop.ensures.armed.many ∙ i.many;
      alike = alike_on first before c.try_stop.new.rehearsal i.alike (armed_alike _ before c.try_stop.new.rehearsal c.try_stop.ensures.armed);
      stops = one_more c.args.stops.now c.loop-stop.stop-index _ c.loop-stop.tried.items c.add.new.tried.items c.in_ok-found.found lt (get_or_default c.args.stops.now c.loop-stop.stop-index _ _ lt) c.in_ok-found.ensures.stop i.stops c.in_ok-add.ensures;
      found = subst (AllByRecursion (IsStopFound ghosts first)) (sym c.in_ok-add.ensures) (recursion_from_All (IsStopFound ghosts first) _ (All-push (IsStopFound ghosts first) c.loop-stop.tried.items c.in_ok-found.found (All-from_recursion (IsStopFound ghosts first) c.loop-stop.tried.items i.found) this));
    }

pub returns-clause-stops : goal.returns-clause-stops
returns-clause-stops g c = c.loop-stop.invariant.stops ∙ take_all c.loop-stop.stop-index c.args.stops.now c.loop-stop-test.false

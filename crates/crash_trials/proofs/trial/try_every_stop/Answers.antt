use Rattle.std.proofs.Common.{◌∙◌, ap}
use Rattle.std.proofs.lemmas.List.Elements.{All-from_recursion, All-weaker, recursion_from_All}
use Rattle.disk_trait.specs.contracts.memory.MemDiskDisk.TheImpl.{ghosts}
use Rattle.crash_trials.specs.Stops.{first_stops}
use Rattle.crash_trials.specs.Trials.{IsStopFound}
use Rattle.crash_trials.proofs.TrialLemmas.{armed_alike, moved}
use Rattle.crash_trials.proofs.trial.try_every_stop.Goals as goal

pub returns-clause-tried : goal.returns-clause-tried
returns-clause-tried g c = λ some.
    let first = c.args.rehearsal.now in
    let armed = c.calls_of_last.new.rehearsal in
    let tried = c.in_ok-tried.tried.items in
    let alike = armed_alike _ first armed c.calls_of_last.ensures.armed in
    record {
      calls = c.in_ok-calls.calls.items;
      unstopped = c.in_ok-calls.ensures.calls;
      tried = tried;
      stops = c.in_ok-tried.ensures.stops ∙ c.deref-2.ensures.value ∙ c.in_ok-stops.ensures ∙ ap (first_stops c.args.most) c.deref.ensures.value;
      each = recursion_from_All _ tried (All-weaker (IsStopFound ghosts armed) (IsStopFound ghosts first) (λ found is. moved ghosts first armed found alike is) tried (All-from_recursion (IsStopFound ghosts armed) tried c.in_ok-tried.ensures.found));
      told = rw (c.count_stops.ensures, c.deref-3.ensures.value, c.deref-4.ensures.value) at c.in_ok-text.ensures;
    }

use Rattle.event_laws.proofs.Known.{Laws}
use Rattle.event_laws.proofs.Runs.{begun_are, events_keep, rebuilds_keep, runs_keep, ways_are}
use Rattle.event_laws.proofs.Arriving.{gone_stay_gone, hopped_arrive}
use Rattle.event_laws.proofs.ways.ways_law.Goals as goal

pub returns : goal.returns
returns c =
    let lists = c.lists_law.ensures in
    let laws : Laws = record { course = c.scheme_laws.ensures.course; lists = lists.answers; lawful = lists.lawful; durable = lists.durable } in
    record {
      begun = begun_are;
      events = events_keep laws;
      rebuilds = rebuilds_keep;
      runs = runs_keep laws;
      routed_well = ways_are laws;
      gone = gone_stay_gone;
      arrive = hopped_arrive laws;
    }

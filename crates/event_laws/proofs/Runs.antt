-- Packets stay on their way by each event, and over a run.
use Rattle.std.proofs.Common.{[], ◌∷◌, sym, subst}
use Rattle.event_model.specs.declared.event.Event.TheVariants.{Launch, Hop}
use Rattle.event_model.specs.Answers.{answer, launch, hop}
use Rattle.event_laws.specs.Ways.{AreOnWay}
use Rattle.event_laws.specs.Later.{AllGoOn}
use Rattle.event_laws.specs.Queues.{let_in_by}
use Rattle.event_laws.specs.WayLaws.{BegunAreOnWay, EventsKeepWays, RebuildsKeepWays, RunsKeepWays, WaysAreRoutedWell}
use Rattle.event_laws.proofs.CameTo.{or_memory, came_to, rebuild_comes}
use Rattle.event_laws.proofs.Known.{Laws, knows_of, routed_well}
use Rattle.event_laws.proofs.WayLemmas.{list_same, list_more}
use Rattle.event_laws.proofs.Others.{adds, adds_ways, adds_go_on}
use Rattle.event_laws.proofs.Launching.{IsGood, launch_good, hop_good}

pub begun_are : BegunAreOnWay
begun_are capacity sessions state down = tt

pub rebuilds_keep : RebuildsKeepWays
rebuilds_keep words m r n ways h = adds_ways m n (adds m n [] r (rebuild_comes words m r n h)) ways

pub ways_are : Laws → WaysAreRoutedWell
ways_are laws first m is ways = routed_well laws.course first m (knows_of laws first m is) ways

-- an event that at most adds postings is one of which no reply says anything of packets
pub events_keep : Laws → EventsKeepWays
events_keep laws first (Launch u v at) m r n is ways h =
    or_memory (λ q k. IsGood first (Launch u v at) m (answer q k)) (launch m u v at) m r n h (ways, tt, list_same m.ways) (launch_good laws.course first m (knows_of laws first m is) ways at u v)
events_keep laws first (Hop i at) m r n is ways h =
    or_memory (λ q k. IsGood first (Hop i at) m (answer q k)) (hop m i at) m r n h (ways, tt, list_same m.ways) (hop_good laws.course first m (knows_of laws first m is) ways at i)
events_keep laws first event m r n is ways h = (let a = adds m n (let_in_by event r) r (came_to event m r n h) in (adds_ways m n a ways, tt, adds_go_on m n a))

pub runs_keep : Laws → RunsKeepWays
runs_keep laws first m [] [] n is ways run = (subst AreOnWay (sym run) ways, run, subst (AllGoOn m) (sym run) (list_same m.ways))
runs_keep laws first m (e ∷ es) (r ∷ rs) n is ways run =
    let one = events_keep laws first e m r run.0 is ways run.1.0 in
    let rest = runs_keep laws first run.0 es rs n (laws.lists first e m r run.0 is run.1.0) one.0 run.1.1 in
    (rest.0, (run.0, (run.1.0, (one.1, rest.1))), list_more m.ways run.0.ways n.ways one.2 rest.2)
runs_keep laws first m es rs n is ways run = absurd run

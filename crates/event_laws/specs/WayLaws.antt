-- The laws of packets' ways over events.
use Rattle.std.specs.Prelude.{ℕ, List, Bool}
use Rattle.layout_2.specs.State.{State}
use Rattle.event_model.specs.declared.event.Event.{Event}
use Rattle.event_model.specs.declared.reply.Reply.{Reply}
use Rattle.event_model.specs.Trips.{Trip}
use Rattle.event_model.specs.Machines.{Machine, begun}
use Rattle.event_model.specs.Answers.{Answers, RebuildAnswers}
use Rattle.event_model.specs.Runs.{Run}
use Rattle.event_laws.specs.Listed.{IsListed}
use Rattle.event_laws.specs.Ways.{AreOnWay}
use Rattle.event_laws.specs.Courses.{AreRoutedWell}
use Rattle.event_laws.specs.Replies.{Tells, RunRoutes}
use Rattle.event_laws.specs.Later.{AllGoOn, IsGone, NeverHops}

-- in a machine that begins, each packet is on its way
abbrev pub BegunAreOnWay : Type 0
BegunAreOnWay = (capacity sessions : ℕ) (state : State) (down : Bool) → AreOnWay (begun capacity sessions state down)

-- an event leaves each packet on its way, its reply says of them what it should, and each goes on
abbrev pub EventsKeepWays : Type 0
EventsKeepWays = (first : State) (event : Event) (m : Machine) (reply : Reply) (n : Machine) → IsListed first m → AreOnWay m → Answers event m reply n
    → AreOnWay n × Tells first event m reply n × AllGoOn m n

-- a rebuild leaves each packet on its way
abbrev pub RebuildsKeepWays : Type 0
RebuildsKeepWays = (words : List ℕ) (m : Machine) (reply : Reply) (n : Machine) → AreOnWay m → RebuildAnswers words m reply n → AreOnWay n

-- so does a run, each of its replies says what it should, and each packet goes on
abbrev pub RunsKeepWays : Type 0
RunsKeepWays = (first : State) (m : Machine) (events : List Event) (replies : List Reply) (n : Machine) → IsListed first m → AreOnWay m → Run m events replies n
    → AreOnWay n × RunRoutes first m events replies n × AllGoOn m n

-- packets on their way are routed well
abbrev pub WaysAreRoutedWell : Type 0
WaysAreRoutedWell = (first : State) (m : Machine) → IsListed first m → AreOnWay m → AreRoutedWell first m

-- a packet that is gone stays so, and no event of a run moves it
abbrev pub GoneStayGone : Type 0
GoneStayGone = (i : ℕ) (way : Trip) (m : Machine) (events : List Event) (replies : List Reply) (n : Machine) → IsGone i way m → Run m events replies n
    → IsGone i way n × NeverHops i events replies

-- What a run of events promises.
use Rattle.std.specs.Prelude.{◌≡◌, ◌++◌, ℕ, List, [], ◌∷◌, IsTrue}
use Rattle.std.specs.List.{AllByRecursion}
use Rattle.disk_trait.specs.Disk.{MayLeave}
use Rattle.layout_2.specs.State.{State}
use Rattle.event_model.specs.declared.event.Event.{Event}
use Rattle.event_model.specs.declared.reply.Reply.{Reply}
use Rattle.event_model.specs.Machines.{Machine}
use Rattle.event_model.specs.Runs.{Run}
use Rattle.event_laws.specs.Arriving.{Arrive}
use Rattle.event_laws.specs.Courses.{AreRoutedWell}
use Rattle.event_laws.specs.Later.{AllGoOn}
use Rattle.event_laws.specs.Listed.{IsListed}
use Rattle.event_laws.specs.Queues.{all_let_in}
use Rattle.event_laws.specs.Replies.{RunRoutes}
use Rattle.event_laws.specs.Runs.{IsRun}
use Rattle.event_laws.specs.Ways.{AreOnWay}
use Rattle.interleave.specs.declared.world.World.{World}
use Rattle.interleave.specs.WorldWords.{lists_of, machine_of, world_view}
use Rattle.interleave.specs.Crashes.{HasWorlds, HoldsSince, IsSafeSince}

-- A machine ran these events, whatever its disk is.
pub record HasRunAs (m : Machine) (events : List Event) (replies : List Reply) (n : Machine) : Type 0 where
  -- each reply is one that its event may be answered
  pub answers : Run m events replies n
  -- the lists are kept
  pub lists : (first : State) → IsListed first m → IsListed first n
  -- what was asked is what was asked before, and behind it what the replies let in
  pub asked : n.asked ≡ m.asked ++ all_let_in events replies
  -- each packet stays on its way
  pub on_way : (first : State) → IsListed first m → AreOnWay m → AreOnWay n
  -- each reply to a launch or a hop says where the packet went, or why not
  pub routes : (first : State) → IsListed first m → AreOnWay m → RunRoutes first m events replies n
  -- each packet goes on under its number
  pub go_on : (first : State) → IsListed first m → AreOnWay m → AllGoOn m n
  -- each goes over the one trip of its own generation
  pub routed_well : (first : State) → IsListed first m → AreOnWay m → AreRoutedWell first n
  -- one that is hopped more often than its trip has edges left is delivered, but for want of its generation or of memory
  pub arrive : (first : State) → IsListed first m → Arrive first m events replies

-- A world ran these events.
pub record HasRun {D : Type 0} {V : _} (old : World D V) (events : List Event) (replies : List Reply) (new : World D V) : Type 0 where
  -- so did the machine that it is
  pub machine : HasRunAs (machine_of old) events replies (machine_of new)
  -- there is a world after each event, and each commit was answered by its desk
  pub worlds : HasWorlds old events replies new
  -- a crash at any moment since the first of these worlds, or since any other, leaves what it had to hold by then
  pub safe : IsTrue (world_view old).keeps_model → (first : State)
      → IsRun first (world_view old) (lists_of old) [] → IsListed first (machine_of old)
      → AllByRecursion (IsSafeSince first new) (old ∷ worlds.each)
  -- a crash now leaves every change whose Accepted mark stands in a posting
  pub acknowledged : IsTrue (world_view old).keeps_model → (first : State) (before : List (ℕ × ℕ))
      → IsRun first (world_view old) (lists_of old) before → IsListed first (machine_of old)
      → (image : List ℕ) → MayLeave (world_view new) image → HoldsSince first (machine_of new) (machine_of new) image

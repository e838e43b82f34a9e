-- A world at the beginning of a life.
use Rattle.std.specs.Prelude.{◌≡◌, ℕ, [], IsTrue, false}
use Rattle.checkpoint.specs.StoreWords.{state_of, view_of, is_down}
use Rattle.group_commit.specs.declared.desk.Desk.{Desk}
use Rattle.group_commit.specs.DeskWords.{store_of}
use Rattle.event_model.specs.Machines.{begun}
use Rattle.event_laws.specs.Listed.{IsListed}
use Rattle.event_laws.specs.Runs.{IsRun}
use Rattle.event_laws.specs.Ways.{AreOnWay}
use Rattle.interleave.specs.declared.world.World.{World}
use Rattle.interleave.specs.WorldWords.{desk_of, lists_of, machine_of, world_view}

-- Nothing was asked, posted or sent yet.
pub record IsFresh {D : Type 0} {V : _} (desk : Desk D V) (capacity sessions : ℕ) (world : World D V) : Type 0 where
  -- it has the desk that was given
  pub given : desk_of world ≡ desk
  -- and nothing else, but for room in its queue and sessions that have seen nothing
  pub machine : machine_of world ≡ begun capacity sessions (state_of (store_of desk)) (is_down (store_of desk))

-- A life begins with this world.
pub record HasBegun {D : Type 0} {V : _} (desk : Desk D V) (capacity sessions : ℕ) (world : World D V) : Type 0 where
  -- nothing was asked, posted or sent yet
  pub fresh : IsFresh desk capacity sessions world
  -- its lists are kept from here on
  pub listed : IsListed (state_of (store_of desk)) (machine_of world)
  -- no packet is astray
  pub on_way : AreOnWay (machine_of world)
  -- a crash now leaves what was opened, where the device keeps the disk model and hasn't failed
  pub run : IsTrue (view_of (store_of desk)).keeps_model → is_down (store_of desk) ≡ false
      → IsRun (state_of (store_of desk)) (world_view world) (lists_of world) []

-- A world, as contracts see it.
use Rattle.std.specs.Option.{option_map}
use Rattle.disk_trait.specs.Disk.{DiskView}
use Rattle.checkpoint.specs.declared.store.Store.{Store}
use Rattle.checkpoint.specs.StoreWords.{state_of, view_of, is_down}
use Rattle.generations.specs.Notices.{notice_of}
use Rattle.group_commit.specs.DeskWords.{store_of, due_of}
use Rattle.group_commit.specs.declared.desk.Desk.{Desk}
use Rattle.event_laws.specs.History.{Lists}
use Rattle.event_model.specs.Machines.{Machine}
use Rattle.event_laws.specs.OneLife.{history_of}
use Rattle.interleave.specs.declared.stored.Stored.{Stored}
use Rattle.interleave.specs.declared.world.World.{World}
use Rattle.interleave.specs.Stores.{machine_with}

-- its desk
abbrev pub desk_of : {D : Type 0} {V : _} → World D V → Desk D V
desk_of w = w.desk

-- what it stores beside the desk
abbrev pub stored_of : {D : Type 0} {V : _} → World D V → Stored
stored_of w = w.stored

-- the desk's store
abbrev pub world_store : {D : Type 0} {V : _} → World D V → Store D V
world_store w = store_of w.desk

-- its disk
abbrev pub world_view : {D : Type 0} {V : _} → World D V → DiskView
world_view w = view_of (store_of w.desk)

-- all that it holds
abbrev pub machine_of : {D : Type 0} {V : _} → World D V → Machine
machine_of w = machine_with w.stored (option_map notice_of (due_of w.desk)) (state_of (store_of w.desk)) (is_down (store_of w.desk))

-- what crashes have to do with
abbrev pub lists_of : {D : Type 0} {V : _} → World D V → Lists
lists_of w = history_of (machine_of w)

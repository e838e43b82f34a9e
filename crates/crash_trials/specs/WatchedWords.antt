-- A watched disk, as contracts see it.
use Rattle.std.specs.Prelude.{IsTrue, List}
use Rattle.disk_trait.specs.declared.memory.MemDisk.{MemDisk}
use Rattle.disk_trait.specs.Disk.{DiskView, MayLeave}
use Rattle.disk_trait.specs.Memory.{mem_view, mem_present}
use Rattle.crash_trials.specs.declared.stops.Call.{Call}
use Rattle.crash_trials.specs.declared.watched.Watched.{Watched}

-- the disk that is watched
abbrev pub disk_in : Watched → MemDisk
disk_in watched = watched.disk

-- the calls that were made of it since it was armed last, in their order
abbrev pub calls_made : Watched → List Call
calls_made watched = watched.made.items

-- what is seen of it
abbrev pub watched_view : Watched → DiskView
watched_view watched = mem_view watched.disk

pub watched_present : (watched : Watched) → IsTrue (watched_view watched).keeps_model → MayLeave (watched_view watched) (watched_view watched).content
watched_present watched = mem_present watched.disk

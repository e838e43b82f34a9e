-- A device that was loaded holds what was loaded.
use Rattle.disk_trait.specs.Disk.{DiskView}
use Rattle.lab_parts.specs.States.{Holds, HoldsState}
use Rattle.layout_2.specs.Loading.{IsLoaded, Loaded, stands_for, state_of}

pub stands_loaded : (disk left : DiskView) (l : Loaded) → IsLoaded disk left l → HoldsState disk (state_of l)
stands_loaded disk left l found model = stands_for l disk.content found.parts (found.of_model model).in_use.stands

pub holds_loaded : (disk left : DiskView) (l : Loaded) → IsLoaded disk left l → Holds disk left (state_of l)
holds_loaded disk left l found = (found.read, stands_loaded disk left l found)

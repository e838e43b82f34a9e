-- A hooked disk, as contracts see it.
use Rattle.std.specs.Prelude.{IsTrue}
use Rattle.disk_trait.specs.Disk.{DiskView, MayLeave}
use Rattle.disk_trait.specs.declared.memory.MemDisk.{MemDisk}
use Rattle.disk_trait.specs.Memory.{mem_view, mem_present}
use Rattle.test_doubles.specs.declared.hooked.HookedDisk.{HookedDisk}

-- the disk in it
abbrev pub disk_in : {H : Type 0} → HookedDisk H → MemDisk
disk_in hooked = hooked.disk

-- what is seen of it
abbrev pub hooked_view : {H : Type 0} → HookedDisk H → DiskView
hooked_view hooked = mem_view hooked.disk

pub hooked_present : {H : Type 0} (hooked : HookedDisk H) → IsTrue (hooked_view hooked).keeps_model → MayLeave (hooked_view hooked) (hooked_view hooked).content
hooked_present hooked = mem_present hooked.disk

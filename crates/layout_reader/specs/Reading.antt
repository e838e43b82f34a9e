-- What is said of a device that was read, or that a read was refused of.
use Rattle.std.specs.Prelude.{◌≡◌, ◌<◌, IsTrue}
use Rattle.disk_trait.specs.Disk.{DiskView, IsSameDevice, OnlyRead}
use Rattle.layout_reader.specs.declared.refusals.OpenRefused.{OpenRefused}
use Rattle.layout_reader.specs.declared.refusals.OpenRefused.TheVariants.{Device}
use Rattle.layout_reader.specs.Refusals.{IsNoDeviceFault}

-- A device was read.
pub record IsRead (disk left : DiskView) : Type 0 where
  -- it is the one that was given
  pub ran : IsSameDevice disk left
  -- no call of it failed
  pub no_failure : left.failures ≡ disk.failures
  -- where it keeps the model, nothing was written
  pub reads : IsTrue disk.keeps_model → OnlyRead disk left

-- A read of a device was refused.
pub record IsNotRead (disk left : DiskView) (why : OpenRefused) : Type 0 where
  -- the device is the one that was given
  pub ran : IsSameDevice disk left
  -- Device: a call of it failed
  pub device : why ≡ Device → disk.failures < left.failures
  -- any other: each call of it was served
  pub served : IsNoDeviceFault why → left.failures ≡ disk.failures
  -- where it keeps the model, nothing was written
  pub reads : IsTrue disk.keeps_model → OnlyRead disk left

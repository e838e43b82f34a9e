-- What the opening of a store gives, and what a refusal to open says.
use Rattle.std.specs.Prelude.{◌≡◌, ◌<◌, false, IsTrue}
use Rattle.disk_trait.specs.Disk.{DiskView, IsSameDevice, OnlyRead}
use Rattle.layout_2.specs.Fronts.{HasOtherVersion, HasThisVersion}
use Rattle.layout_2.specs.Standing.{StandsFor, StandsForNone}
use Rattle.layout_reader.specs.Refusals.{IsFormatFault, IsNoDeviceFault, LacksMagic}
use Rattle.layout_reader.specs.declared.refusals.OpenRefused.{OpenRefused}
use Rattle.layout_reader.specs.declared.refusals.OpenRefused.TheVariants.{NotFormatted, BadVersion, Damaged, Device, Memory}
use Rattle.checkpoint.specs.declared.store.Store.{Store}
use Rattle.checkpoint.specs.StoreWords.{state_of, view_of, is_down, IsDurable}

-- The store holds what stands on a device that keeps the model.
pub record HoldsContent {D : Type 0} {V : _} (disk : DiskView) (store : Store D V) : Type 0 where
  -- its state is the one that the content stands for
  pub stands : StandsFor (state_of store) disk.content
  -- each image that a crash now may leave stands for it too
  pub durable : IsDurable store
  -- the front is that of this layout
  pub version : HasThisVersion disk.content
  -- nothing was written
  pub reads : OnlyRead disk (view_of store)

-- A store was opened on a device.
pub record IsOpened {D : Type 0} {V : _} (disk : DiskView) (store : Store D V) : Type 0 where
  -- it is up
  pub up : is_down store ≡ false
  -- its device is the one that was given
  pub ran : IsSameDevice disk (view_of store)
  -- no call of the device failed
  pub no_failure : (view_of store).failures ≡ disk.failures
  -- where the device keeps the model, the store holds what stands there
  pub of_model : IsTrue disk.keeps_model → HoldsContent disk store

-- What a refusal to open tells of a device that keeps the model.
pub record TellsContent (disk left : DiskView) (why : OpenRefused) : Type 0 where
  -- a fault of the format comes only where the content stands for nothing
  pub stands_for_none : IsFormatFault why → StandsForNone disk.content
  -- NotFormatted: there is no magic
  pub not_formatted : why ≡ NotFormatted → LacksMagic disk.content
  -- BadVersion: the front is that of another layout
  pub bad_version : why ≡ BadVersion → HasOtherVersion disk.content
  -- Damaged: the front is that of this layout
  pub damaged : why ≡ Damaged → HasThisVersion disk.content
  -- Memory: so it is
  pub memory : why ≡ Memory → HasThisVersion disk.content
  -- nothing was written
  pub reads : OnlyRead disk left

-- No store was opened, and the device comes back.
pub record IsNotOpened (disk left : DiskView) (why : OpenRefused) : Type 0 where
  -- it is the one that was given
  pub ran : IsSameDevice disk left
  -- Device: a call of it failed
  pub device : why ≡ Device → disk.failures < left.failures
  -- any other: each call of it was served
  pub served : IsNoDeviceFault why → left.failures ≡ disk.failures
  -- where it keeps the model, the refusal tells what stands there
  pub of_model : IsTrue disk.keeps_model → TellsContent disk left why

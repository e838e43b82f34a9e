-- What a device holds to which a state was written whole.
use Rattle.std.specs.Prelude.{◌≡◌, ℕ, List, IsTrue}
use Rattle.disk_trait.specs.Disk.{DiskView, LeavesOnly, MayLeave}
use Rattle.layout_2.specs.State.{State}
use Rattle.layout_2.specs.Standing.{StandsFor}
use Rattle.checkpoint.specs.Whole.{IsAllForeign, IsFreshWith, StandsForNoneOr}

-- A device that keeps the model holds this state, as a fresh device does.
pub record HoldsFresh (state : State) (disk : DiskView) : Type 0 where
  -- the content stands for it
  pub stands : StandsFor state disk.content
  -- each image that a crash now may leave stands for it too
  pub left : (image : List ℕ) → MayLeave disk image → StandsFor state image
  -- in the content it is in slot 0, with the first epoch and no records
  pub fresh : IsFreshWith state disk.content
  -- and so it is in each such image
  pub fresh_left : (image : List ℕ) → MayLeave disk image → IsFreshWith state image

-- The state was written.
pub record IsNowWritten (state : State) (old new : DiskView) : Type 0 where
  -- no call of the device failed
  pub no_failure : new.failures ≡ old.failures
  -- where the device keeps the model, it holds the state
  pub of_model : IsTrue old.keeps_model → HoldsFresh state new

-- A crash at any moment leaves an image that stands for nothing or for the whole state. So it is where no image of before has the front of
-- this layout, on a device that keeps the model.
abbrev pub WritesWholly : State → DiskView → DiskView → Type 0
WritesWholly state old new = IsTrue old.keeps_model → IsAllForeign old → LeavesOnly old new (StandsForNoneOr state)

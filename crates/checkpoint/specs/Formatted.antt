-- What a device holds that was formatted.
use Rattle.std.specs.Prelude.{◌≡◌, ℕ, List, IsTrue}
use Rattle.disk_trait.specs.Disk.{DiskView, MayLeave}
use Rattle.layout_2.specs.State.{first_state}
use Rattle.layout_2.specs.Standing.{StandsFor}
use Rattle.checkpoint.specs.Formatting.{formatted}

-- A device that keeps the model holds a network of so many nodes and no edges.
pub record HoldsFirst (nodes : ℕ) (old new : DiskView) : Type 0 where
  -- the bytes that a format writes are there, and each other byte stayed
  pub written : new.content ≡ formatted nodes old.content
  -- the content stands for the first state
  pub stands : StandsFor (first_state nodes) new.content
  -- each image that a crash now may leave stands for it too
  pub left : (image : List ℕ) → MayLeave new image → StandsFor (first_state nodes) image

-- The device was formatted.
pub record IsFormatted (nodes : ℕ) (old new : DiskView) : Type 0 where
  -- no call of it failed
  pub no_failure : new.failures ≡ old.failures
  -- where it keeps the model, it holds the first state
  pub of_model : IsTrue old.keeps_model → HoldsFirst nodes old new

-- A disk in memory, as contracts see it.
use Rattle.std.specs.Prelude.{◌≡◌, ◌⊎◌, ℕ, List, [], ◌∷◌, length, drop, Bool, true, IsTrue, refl}
use Rattle.std.proofs.Common.{inl}
use Rattle.disk_trait.specs.declared.cells.Cells.{Cells}
use Rattle.disk_trait.specs.declared.memory.MemDisk.{MemDisk}
use Rattle.disk_trait.specs.declared.plan.Plan.{Plan}
use Rattle.disk_trait.specs.Disk.{DiskView, MayLeave}
use Rattle.disk_trait.specs.Image.{IsImage}

-- a crash leaves this of the cells
abbrev pub IsImageOf : Cells → List ℕ → Type 0
IsImageOf cells image = IsImage cells.bytes.items cells.unsettled.items image

-- a crash at one of these moments left this
abbrev pub LeftOne : List Cells → List ℕ → Type 0
LeftOne [] image = ⊥
LeftOne (cells ∷ later) image = IsImageOf cells image ⊎ LeftOne later image

-- a disk with these cells, which were those of `past` before each call
abbrev pub view_of : List Cells → Cells → ℕ → DiskView
view_of past cells failures = record {
  content = cells.bytes.items;
  clock = length past;
  left_since = λ t image. IsImageOf cells image ⊎ LeftOne (drop t past) image;
  failures = failures;
  keeps_model = true;
}

-- the disk as the layers above see it: its clock is the number of its calls
abbrev pub mem_view : MemDisk → DiskView
mem_view disk = view_of disk.past.items disk.cells (length disk.failures.items)

-- which calls are to fail
abbrev pub plan_of : MemDisk → Plan
plan_of disk = disk.plan

-- for each byte, whether it is unsettled: a write has been there, and no good sync behind it
abbrev pub unsettled_of : MemDisk → List Bool
unsettled_of disk = disk.cells.unsettled.items

-- the bytes as after the last sync that succeeded
abbrev pub synced_of : MemDisk → List ℕ
synced_of disk = disk.cells.synced.items

-- the bytes, those of the last sync, and which ones are unsettled, stay
pub record HoldsTheSame (old new : MemDisk) : Type 0 where
  pub content : (mem_view new).content ≡ (mem_view old).content
  pub synced : synced_of new ≡ synced_of old
  pub unsettled : unsettled_of new ≡ unsettled_of old

-- the content is one of the images
pub mem_present : (disk : MemDisk) → IsTrue (mem_view disk).keeps_model → MayLeave (mem_view disk) (mem_view disk).content
mem_present disk model = inl (record { as_long = refl; same = λ i within settled. refl })

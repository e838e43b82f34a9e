-- Which image of a crash a word chooses.
use Rattle.std.specs.Prelude.{◌≡◌, ℕ}
use Rattle.disk_trait.specs.declared.memory.MemDisk.{MemDisk}
use Rattle.disk_trait.specs.Image.{image_by}
use Rattle.disk_trait.specs.Memory.{mem_view, unsettled_of, synced_of}

-- of any disk nothing is known of that
abbrev pub any_word : {D : Type 0} → D → ℕ → D → Type 0
any_word disk word left = Unit {0}

-- a disk in memory is left with the image of the word, and has failed as often as before
pub record IsLeftByWord (disk : MemDisk) (word : ℕ) (left : MemDisk) : Type 0 where
  pub image : (mem_view left).content ≡ image_by word (unsettled_of disk) (mem_view disk).content (synced_of disk)
  pub failures : (mem_view left).failures ≡ (mem_view disk).failures

-- A disk on a file, as contracts see it: its length, its calls and its failures.
use Rattle.std.specs.Prelude.{length, replicate, false, IsTrue}
use Rattle.disk_trait.specs.declared.file.FileDisk.{FileDisk}
use Rattle.disk_trait.specs.Disk.{DiskView, MayLeave}

-- what is known of a file: its length, how many calls it had and how often one failed; of its bytes nothing is claimed
abbrev pub file_view : FileDisk → DiskView
file_view disk = record {
  content = replicate disk.len 0;
  clock = length disk.calls.items;
  left_since = λ t image. Unit {0};
  failures = length disk.failures.items;
  keeps_model = false;
}

pub file_present : (disk : FileDisk) → IsTrue (file_view disk).keeps_model → MayLeave (file_view disk) (file_view disk).content
file_present disk model = tt

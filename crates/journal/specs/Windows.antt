-- What a window on a disk holds.
use Rattle.std.specs.Prelude.{◌≡◌, ℕ, List, take, drop}
use Rattle.disk_trait.specs.Disk.{DiskView, OnlyRead}
use Rattle.journal.specs.Forms.{EntryForm}
use Rattle.journal.specs.Records.{Area}
use Rattle.journal.specs.Scanning.{BeginsWith}
use Rattle.journal.specs.declared.window.Window.{Window}

-- the window shows this content
abbrev pub Holds : Window → List ℕ → Type 0
Holds window content = take window.len window.bytes.items ≡ take window.len (drop window.from content)

-- how far a scan has come
pub record HasFound {E : Type 0} (form : EntryForm E) (area : Area) (groups : List (List E)) (old new : DiskView) (window : Window) : Type 0 where
  pub reads : OnlyRead old new
  pub holds : Holds window old.content
  pub front : BeginsWith form area groups old.content

-- What a scan of an area finds.
use Rattle.std.specs.Prelude.{◌≡◌, ◌≤◌, ◌<◌, ℕ, List, ◌++◌, length, drop}
use Rattle.std.specs.List.{AllByRecursion}
use Rattle.disk_trait.specs.Disk.{bytes_at}
use Rattle.journal.specs.Forms.{EntryForm}
use Rattle.journal.specs.Records.{Area, record_of, records}
use Rattle.journal.specs.Spelling.{IsGroup}

-- the area begins with the records of these groups
pub record BeginsWith {E : Type 0} (form : EntryForm E) (area : Area) (groups : List (List E)) (image : List ℕ) : Type 0 where
  pub each : AllByRecursion (IsGroup form) groups
  pub open_records : bytes_at image area.start (length (records form groups)) ≡ records form groups

-- bytes begin with the record of the group, of this size, and at least one byte stands behind it
pub record IsNextRecord {E : Type 0} (form : EntryForm E) (bytes : List ℕ) (group : List E) (size : ℕ) : Type 0 where
  pub is_group : IsGroup form group
  pub bytes_are : bytes ≡ record_of form group ++ drop size bytes
  pub size_is : size ≡ length (record_of form group)
  pub shorter : size < length bytes

-- bytes don't begin with a group's record and a byte behind it
abbrev pub HasNoRecord : {E : Type 0} → EntryForm E → List ℕ → Type 0
HasNoRecord {E = E} form bytes = (group : List E) (after : List ℕ) → IsGroup form group → 1 ≤ length after → bytes ≡ record_of form group ++ after → ⊥

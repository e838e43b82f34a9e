-- The records of layout 2: the journal's words, its entries being accepted requests.
use Rattle.std.specs.Prelude.{◌+◌, ◌≤◌, ◌⊎◌, ℕ, List}
use Rattle.requests.specs.declared.request.Request.{Request}
use Rattle.disk_trait.specs.Disk.{DiskView, Torn}
pub use Rattle.journal.specs.declared.area.Area.{Area}
pub use Rattle.journal.specs.Records.{entries_of}
use Rattle.journal.specs.Records.{Spells as SpellsEntries, AllSpell as AllSpellEntries, IsBeforeOrAfter as IsBeforeOrAfterEntries}
use Rattle.journal.specs.JournalView.{JournalView, HasRoom as HasRoomForEntries, LacksRoom as LacksRoomForEntries}
use Rattle.journal.specs.RequestForm.{request_form}
use Rattle.journal.specs.Elsewhere.{still_spells as still_spells_entries}

-- an accepted request
abbrev pub Entry : Type 0
Entry = Request

-- the area spells these groups
abbrev pub Spells : Area → List (List Entry) → List ℕ → Type 0
Spells = SpellsEntries request_form

-- it does so in each image that a crash now may leave
abbrev pub AllSpell : DiskView → Area → List (List Entry) → Type 0
AllSpell = AllSpellEntries request_form

-- an image of before, torn in the area alone, whose area spells the groups of before, with one more or without it
abbrev pub IsBeforeOrAfter : DiskView → Area → List (List Entry) → List Entry → List ℕ → Type 0
IsBeforeOrAfter = IsBeforeOrAfterEntries request_form

-- the group's record and the next gate fit in what is left of the area
abbrev pub HasRoom : JournalView Entry → List Entry → Type 0
HasRoom = HasRoomForEntries request_form

-- they don't fit there
abbrev pub LacksRoom : JournalView Entry → List Entry → Type 0
LacksRoom = LacksRoomForEntries request_form

-- what is written outside an area leaves what it spells
pub still_spells : (area : Area) (groups : List (List Entry)) (old new : List ℕ) (at n : ℕ) → Torn at n old new → (at + n ≤ area.start) ⊎ (area.start + area.room ≤ at) → Spells area groups old → Spells area groups new
still_spells = still_spells_entries request_form

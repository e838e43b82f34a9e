-- A journal, as contracts see it.
use Rattle.std.specs.Prelude.{◌≤◌, ◌<◌, ◌+◌, ◌-◌, ℕ, List, [], ◌++◌, length, take, drop, map, Vec, unwrap_or}
use Rattle.std.specs.declared.alloc.Global.{Global}
use Rattle.journal.specs.Forms.{EntryForm}
use Rattle.journal.specs.Layout.{length_size, record_head}
use Rattle.journal.specs.Records.{Area, record_of, records}
use Rattle.journal.specs.Spelling.{group_of}

-- its area, and the groups whose records it has scanned or appended
pub record JournalView (E : Type 0) : Type 0 where
  pub area : Area
  pub groups : List (List E)

-- the group that a text behind a gate spells
abbrev pub group_in : {E : Type 0} → EntryForm E → List ℕ → List E
group_in form text = unwrap_or (group_of form (take (length text - record_head) (drop length_size text))) []

-- the groups that were scanned, and then those whose texts were appended
abbrev pub groups_in : {E : Type 0} → EntryForm E → List (Vec E Global) → List (Vec ℕ Global) → List (List E)
groups_in form scanned appended = map (λ group. group.items) scanned ++ map (λ text. group_in form text.items) appended

-- the group's record and the next gate fit in what is left of the area
abbrev pub HasRoom : {E : Type 0} → EntryForm E → JournalView E → List E → Type 0
HasRoom form journal group = length (records form journal.groups) + length (record_of form group) < journal.area.room

-- they don't
abbrev pub LacksRoom : {E : Type 0} → EntryForm E → JournalView E → List E → Type 0
LacksRoom form journal group = journal.area.room ≤ length (records form journal.groups) + length (record_of form group)

-- An area of records, each behind its gate.
use Rattle.std.specs.Prelude.{◌≡◌, ◌≢◌, ◌⊎◌, ◌<◌, ◌+◌, ℕ, List, [], ◌∷◌, ◌++◌, length, get_or}
use Rattle.std.specs.List.{flat_map, AllByRecursion}
use Rattle.std.specs.Int.{w32, to_be_bytes}
use Rattle.disk_trait.specs.Disk.{DiskView, MayLeave, Torn, bytes_at}
pub use Rattle.journal.specs.declared.area.Area.{Area}
use Rattle.journal.specs.Forms.{EntryForm}
use Rattle.journal.specs.Layout.{open_gate, closed_gate}
use Rattle.journal.specs.Spelling.{payload_of, IsGroup}

-- a payload behind its length
abbrev pub body : List ℕ → List ℕ
body payload = to_be_bytes w32 (length payload) ++ payload

-- a group's record, its gate open
abbrev pub record_of : {E : Type 0} → EntryForm E → List E → List ℕ
record_of form group = open_gate ∷ body (payload_of form group)

-- the records of these groups, one after the other
abbrev pub records : {E : Type 0} → EntryForm E → List (List E) → List ℕ
records form [] = []
records form (group ∷ groups) = record_of form group ++ records form groups

-- the entries of groups, in order
abbrev pub entries_of : {E : Type 0} → List (List E) → List E
entries_of groups = flat_map (λ group. group) groups

-- The area spells these groups: it begins with their records, and a closed gate follows.
pub record Spells {E : Type 0} (form : EntryForm E) (area : Area) (groups : List (List E)) (image : List ℕ) : Type 0 where
  pub each : AllByRecursion (IsGroup form) groups
  pub open_records : bytes_at image area.start (length (records form groups)) ≡ records form groups
  pub gate : get_or image (area.start + length (records form groups)) open_gate ≢ open_gate
  pub within : length (records form groups) < area.room

-- it does so in each image that a crash now may leave
abbrev pub AllSpell : {E : Type 0} → EntryForm E → DiskView → Area → List (List E) → Type 0
AllSpell form disk area groups = (image : List ℕ) → MayLeave disk image → Spells form area groups image

-- the area spells no list of groups
abbrev pub SpellsNothing : {E : Type 0} → EntryForm E → Area → List ℕ → Type 0
SpellsNothing {E = E} form area image = (groups : List (List E)) → Spells form area groups image → ⊥

-- An image of before, torn in the area alone, whose area spells the groups of before, with one more or without it.
pub record IsBeforeOrAfter {E : Type 0} (form : EntryForm E) (disk : DiskView) (area : Area) (groups : List (List E)) (group : List E) (image : List ℕ) : Type 0 where
  pub before : List ℕ
  pub was : MayLeave disk before
  pub elsewhere : Torn area.start area.room before image
  pub spells : Spells form area groups image ⊎ Spells form area (groups ++ group ∷ []) image

-- what is written behind a group's gate: its length, its payload, and the next gate, closed
abbrev pub text_behind : {E : Type 0} → EntryForm E → List E → List ℕ
text_behind form group = body (payload_of form group) ++ closed_gate ∷ []

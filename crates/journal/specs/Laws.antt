-- The laws of payloads and areas.
use Rattle.std.specs.Prelude.{◌≡◌, ◌≤◌, ℕ, List, length}
use Rattle.journal.specs.Forms.{EntryForm, least_payload, most_payload}
use Rattle.journal.specs.Records.{Area, Spells}
use Rattle.journal.specs.Spelling.{payload_of, IsGroup}

-- a payload spells one group
abbrev pub OneGroup : {E : Type 0} → EntryForm E → Type 0
OneGroup {E = E} form = (g h : List E) → IsGroup form g → IsGroup form h → payload_of form g ≡ payload_of form h → g ≡ h

-- how long payloads are
abbrev pub PayloadSizes : {E : Type 0} → EntryForm E → Type 0
PayloadSizes {E = E} form = (group : List E) → IsGroup form group → (least_payload form ≤ length (payload_of form group)) × (length (payload_of form group) ≤ most_payload form)

-- an area spells one list
abbrev pub OneList : {E : Type 0} → EntryForm E → Type 0
OneList {E = E} form = (area : Area) (gs hs : List (List E)) (image : List ℕ) → Spells form area gs image → Spells form area hs image → gs ≡ hs

-- The records of layout 1: the journal's words, its entries being changes.
use Rattle.std.specs.Prelude.{ℕ, List}
use Rattle.graph_edits.specs.declared.edits.Op.{Op}
pub use Rattle.journal.specs.declared.area.Area.{Area}
pub use Rattle.journal.specs.Records.{entries_of}
use Rattle.journal.specs.Records.{Spells as SpellsEntries}
use Rattle.journal.specs.ChangeForm.{change_form}

-- the ops of an accepted change
abbrev pub Entry : Type 0
Entry = List Op

-- the area spells these groups
abbrev pub Spells : Area → List (List Entry) → List ℕ → Type 0
Spells = SpellsEntries change_form

-- Groups of entries, and the one payload of each.
use Rattle.std.specs.Prelude.{◌≤◌, ℕ, List, ◌++◌, length, Option}
use Rattle.std.specs.List.{flat_map, AllByRecursion}
use Rattle.std.specs.Int.{w16, to_be_bytes}
use Rattle.byte_forms.specs.Forms.{FormOf}
use Rattle.byte_forms.specs.FormLaws.{counted_form, u16_form}
use Rattle.byte_forms.specs.Reading.{whole_at}
use Rattle.journal.specs.Forms.{EntryForm, bytes_form}
use Rattle.journal.specs.Layout.{most_entries}

-- a group: how many entries it has, and its entries
abbrev pub payload_of : {E : Type 0} → EntryForm E → List E → List ℕ
payload_of form group = to_be_bytes w16 (length group) ++ flat_map form.text group

-- what one record may list
pub record IsGroup {E : Type 0} (form : EntryForm E) (group : List E) : Type 0 where
  pub some : 1 ≤ length group
  pub few : length group ≤ most_entries
  pub each : AllByRecursion form.IsEntry group

-- groups as bytes
abbrev pub group_form : {E : Type 0} → EntryForm E → FormOf (List E)
group_form form = counted_form u16_form (bytes_form form) 1 most_entries

-- the group that the bytes are the payload of
unfoldable pub group_of : {E : Type 0} → EntryForm E → List ℕ → Option (List E)
group_of form bytes = whole_at (group_form form).at bytes

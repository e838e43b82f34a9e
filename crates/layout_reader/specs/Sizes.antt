-- The sizes of a layout, and where things stand on its devices.
use Rattle.std.specs.Prelude.{◌<◌, ◌≤◌, ◌+◌, ◌*◌, ◌^◌, ℕ, List}
use Rattle.journal.specs.declared.area.Area.{Area}
use Rattle.layout_reader.specs.declared.sizes.Sizes.{Sizes}
use Rattle.layout_reader.specs.Heads.{slots_start, start_of, epoch_in}
use Rattle.layout_reader.specs.Refusals.{version_of, header_with}
use Rattle.graph_edits.specs.Edges.{most_nodes, most_edges}

-- the size of a slot
abbrev pub slot_room : Sizes → ℕ
slot_room sizes = sizes.checkpoint_room + sizes.journal_room

-- how many bytes a device has
abbrev pub device_len : Sizes → ℕ
device_len sizes = slots_start + 2 * slot_room sizes

-- where a slot begins, at its gate
abbrev pub slot_start : Sizes → ℕ → ℕ
slot_start sizes slot = start_of (slot_room sizes) slot

-- where a slot's journal stands
abbrev pub journal_of : Sizes → ℕ → Area
journal_of sizes slot = record { start = slot_start sizes slot + sizes.checkpoint_room; room = sizes.journal_room }

-- the number behind a slot's gate
abbrev pub epoch_at : Sizes → ℕ → List ℕ → ℕ
epoch_at sizes slot image = epoch_in (slot_room sizes) slot image

-- the two digits of the version
abbrev pub version : Sizes → List ℕ
version sizes = version_of sizes.digit

-- magic, version and the number of nodes
abbrev pub header : Sizes → ℕ → List ℕ
header sizes nodes = header_with (version sizes) nodes

-- sizes that fit each other: a checkpoint fits its area, and a device can be addressed
pub record AreSizes (sizes : Sizes) : Type 0 where
  pub nodes : sizes.most_nodes ≤ most_nodes
  pub edges : sizes.most_edges ≤ most_edges
  pub checkpoint : 23 + (sizes.tickets_len + 8 * sizes.most_edges) ≤ sizes.checkpoint_room
  pub slots : sizes.checkpoint_room + sizes.journal_room < 2 ^ 32
  pub journal : 1 ≤ sizes.journal_room

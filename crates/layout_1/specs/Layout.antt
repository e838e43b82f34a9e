-- Where things stand on a device of layout 1, as its format gives the numbers.
use Rattle.std.specs.Prelude.{◌+◌, ℕ, List}
use Rattle.journal.specs.declared.area.Area.{Area}
use Rattle.layout_reader.specs.declared.sizes.Sizes.{Sizes}
use Rattle.layout_reader.specs.Sizes.{slot_start as slot_start_of, journal_of as journal_by, version as version_of_sizes}
pub use Rattle.requests.specs.Tickets.{worn_limit}
pub use Rattle.layout_reader.specs.Heads.{slots_start, other}
pub use Rattle.layout_reader.specs.Refusals.{magic}

-- how many bytes a device has
abbrev pub device_len : ℕ
device_len = 2371584

-- a gate, and what stands between it and a checkpoint's edges
abbrev pub head_len : ℕ
head_len = 23

-- the most nodes of a device's network
abbrev pub most_nodes : ℕ
most_nodes = 4096

-- the most edges
abbrev pub most_edges : ℕ
most_edges = 16384

-- the size of a checkpoint's area; a slot is one, and a journal's behind it
abbrev pub checkpoint_room : ℕ
checkpoint_room = 135168

-- the size of a journal's area
abbrev pub journal_room : ℕ
journal_room = 1048576

-- the size of a slot
abbrev pub slot_room : ℕ
slot_room = 1183744

-- these numbers, and the digit 1 of the version; there are no tickets
abbrev pub sizes : Sizes
sizes = record { digit = 0x31; most_nodes = most_nodes; most_edges = most_edges; tickets_len = 0; checkpoint_room = checkpoint_room; journal_room = journal_room }

-- where a slot begins, at its gate
abbrev pub slot_start : ℕ → ℕ
slot_start = slot_start_of sizes

-- where a slot's journal begins
abbrev pub journal_start : ℕ → ℕ
journal_start slot = slot_start slot + checkpoint_room

-- where a slot's journal stands
abbrev pub journal_of : ℕ → Area
journal_of = journal_by sizes

-- the layout that is described here
abbrev pub version : List ℕ
version = version_of_sizes sizes

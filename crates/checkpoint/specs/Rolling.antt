-- What a roll writes, and what it leaves while the other slot is closed.
use Rattle.std.specs.Prelude.{◌≢◌, ◌-◌, ℕ, List, [], ◌++◌, cond, nat_lt, length, replicate}
use Rattle.disk_trait.specs.Disk.{DiskView, MayLeave, IsTornFrom}
use Rattle.layout_2.specs.Layout.{checkpoint_room}
use Rattle.layout_2.specs.State.{State, checkpoint_text}
use Rattle.layout_reader.specs.EdgeTexts.{edge_text}

-- a neighbour of a node in a checkpoint: an edge is listed with its smaller node
abbrev pub up_text : ℕ → ℕ × ℕ → List ℕ
up_text node neighbour = cond (nat_lt node neighbour.0) (edge_text ((node, neighbour.0), neighbour.1)) []

-- zeros up to so many bytes
abbrev pub padding : List ℕ → List ℕ
padding text = replicate (checkpoint_room - length text) 0

-- what stands behind a gate up to a closed first gate of the journal: a checkpoint and zeros
abbrev pub area_text : ℕ → State → List ℕ
area_text epoch state = checkpoint_text epoch state ++ padding (checkpoint_text epoch state)

-- an image of before with any byte as the gate, where its byte was that of an open one
abbrev pub IsClosing : DiskView → ℕ → ℕ → List ℕ → Type 0
IsClosing disk gate byte image = IsTornFrom disk gate 1 image × (byte ≢ 1 → MayLeave disk image)

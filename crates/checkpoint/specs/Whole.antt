-- A state written whole to a device that wasn't one of this layout.
use Rattle.std.specs.Prelude.{◌≡◌, ◌≢◌, ◌⊎◌, ◌+◌, ℕ, List, [], length, get_or, replicate}
use Rattle.disk_trait.specs.Disk.{DiskView, MayLeave, bytes_at}
use Rattle.graph_edits.specs.Edges.{Network}
use Rattle.layout_2.specs.Fronts.{HasThisVersion}
use Rattle.layout_2.specs.Layout.{checkpoint_room, device_len, header, sessions, slot_start}
use Rattle.layout_2.specs.State.{State, state_with}
use Rattle.layout_2.specs.Standing.{StandsBy, StandsFor, StandsForNone}

-- this count and this network, of which no change carried a ticket
abbrev pub without_tickets : ℕ → Network → State
without_tickets count graph = state_with count graph (replicate sessions 0)

-- the image is as a device that has just been written holds this state: slot 0 is open with its checkpoint, of the first epoch, there are
-- no records, and slot 1 is closed
pub record IsFreshWith (state : State) (image : List ℕ) : Type 0 where
  pub first : StandsBy 0 1 state [] image
  pub second : get_or image (slot_start 1) 0 ≢ 1

-- the front isn't that of a device of this layout, so the image stands for nothing, whatever else it has
abbrev pub IsForeign : List ℕ → Type 0
IsForeign image = ¬ (HasThisVersion image)

-- each image that a crash now may leave is such a one
abbrev pub IsAllForeign : DiskView → Type 0
IsAllForeign disk = (image : List ℕ) → MayLeave disk image → IsForeign image

-- the image stands for nothing, or for this state: for no part of it, and for no other
abbrev pub StandsForNoneOr : State → List ℕ → Type 0
StandsForNoneOr state image = StandsForNone image ⊎ StandsFor state image

-- no slot is open
abbrev pub IsShut : List ℕ → Type 0
IsShut image = (get_or image (slot_start 0) 0 ≢ 1) × (get_or image (slot_start 1) 0 ≢ 1)

-- slot 0 alone is open, behind a header of so many nodes, and has this text behind its gate, up to the closed first gate of its journal
pub record IsWritten (nodes : ℕ) (text image : List ℕ) : Type 0 where
  pub as_long : length image ≡ device_len
  pub head : bytes_at image 0 10 ≡ header nodes
  pub gate : get_or image (slot_start 0) 0 ≡ 1
  pub behind : bytes_at image (slot_start 0 + 1) checkpoint_room ≡ text
  pub other : get_or image (slot_start 1) 0 ≢ 1

-- before all of it is there, it isn't one of this layout, or no slot is open
abbrev pub IsWriting : ℕ → List ℕ → List ℕ → Type 0
IsWriting nodes text image = IsForeign image ⊎ (IsShut image ⊎ IsWritten nodes text image)

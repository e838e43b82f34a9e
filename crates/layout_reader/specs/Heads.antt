-- The heads of the two slots, one behind the other, each of so many bytes, and which slot is in use.
use Rattle.std.specs.Prelude.{◌≡◌, ◌<◌, ◌+◌, ◌*◌, ◌-◌, ℕ, List, ◌++◌, get_or}
use Rattle.std.specs.Int.{w16, w32, w64, to_be_bytes, from_be_bytes}
use Rattle.disk_trait.specs.Disk.{bytes_at}

-- where the slots begin
abbrev pub slots_start : ℕ
slots_start = 4096

-- where a slot begins, at its gate
abbrev pub start_of : ℕ → ℕ → ℕ
start_of room slot = slots_start + room * slot

-- the slot that this one isn't
abbrev pub other : ℕ → ℕ
other slot = 1 - slot

-- the number behind a slot's gate
abbrev pub epoch_in : ℕ → ℕ → List ℕ → ℕ
epoch_in room slot image = from_be_bytes w64 (bytes_at image (start_of room slot + 1) 8)

-- what stands behind a slot's gate, up to tickets or edges
abbrev pub head_text : ℕ → ℕ → ℕ → ℕ → List ℕ
head_text epoch count nodes edges = to_be_bytes w64 epoch ++ (to_be_bytes w64 count ++ (to_be_bytes w16 nodes ++ to_be_bytes w32 edges))

-- a slot has this gate byte, and behind it this epoch, count, number of nodes and number of edges
pub record HasHeadIn (room slot gate epoch count nodes edges : ℕ) (image : List ℕ) : Type 0 where
  pub gate_is : get_or image (start_of room slot) 0 ≡ gate
  pub text : bytes_at image (start_of room slot + 1) 22 ≡ head_text epoch count nodes edges

-- the slot is open, and the other is closed or older; this is the other's gate byte
pub record IsNewestIn (room slot other_gate : ℕ) (image : List ℕ) : Type 0 where
  pub is_open : get_or image (start_of room slot) 0 ≡ 1
  pub other_is : get_or image (start_of room (other slot)) 0 ≡ other_gate
  pub older : other_gate ≡ 1 → epoch_in room (other slot) image < epoch_in room slot image

-- neither slot is
abbrev pub HasNoNewest : ℕ → List ℕ → Type 0
HasNoNewest room image = (slot other_gate : ℕ) → slot < 2 → IsNewestIn room slot other_gate image → ⊥

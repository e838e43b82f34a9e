-- What an image of a device stands for, by the form of its layout.
use Rattle.std.specs.Prelude.{◌≡◌, ◌≢◌, ◌<◌, ◌≤◌, ◌+◌, ℕ, List, length, get_or, Some}
use Rattle.disk_trait.specs.Disk.{DiskView, MayLeave, bytes_at}
use Rattle.requests.specs.Tickets.{worn_limit}
use Rattle.journal.specs.Forms.{EntryForm}
use Rattle.journal.specs.Records.{Spells, entries_of}
use Rattle.layout_reader.specs.Heads.{other}
use Rattle.layout_reader.specs.Sizes.{device_len, slot_start, journal_of, epoch_at, header}
use Rattle.layout_reader.specs.Forms.{LayoutForm}
use Rattle.layout_reader.specs.State.{State, IsLawful, after, checkpoint_text}

-- the image has this checkpoint in this slot, with these records behind it, and the other slot is closed or older
pub record StandsBy {E T : Type 0} {F : EntryForm E} (form : LayoutForm F T) (slot epoch : ℕ) (base : State T) (groups : List (List E)) (image : List ℕ) : Type 0 where
  pub as_long : length image ≡ device_len form.sizes
  pub head : bytes_at image 0 10 ≡ header form.sizes base.graph.nodes
  pub gate : get_or image (slot_start form.sizes slot) 0 ≡ 1
  pub text : bytes_at image (slot_start form.sizes slot + 1) (length (checkpoint_text form epoch base)) ≡ checkpoint_text form epoch base
  pub lawful : IsLawful form.sizes base.graph
  pub tickets : form.AreTickets base.tickets
  pub epoch_fits : epoch ≤ worn_limit
  pub older : get_or image (slot_start form.sizes (other slot)) 0 ≡ 1 → epoch_at form.sizes (other slot) image < epoch
  pub records : Spells F (journal_of form.sizes slot) groups image

-- the image stands for the state: for that of the newer open slot's checkpoint after the entries of its records
pub record StandsFor {E T : Type 0} {F : EntryForm E} (form : LayoutForm F T) (state : State T) (image : List ℕ) : Type 0 where
  pub slot : ℕ
  pub epoch : ℕ
  pub base : State T
  pub groups : List (List E)
  pub is_slot : slot < 2
  pub by : StandsBy form slot epoch base groups image
  pub folds : after form base (entries_of groups) ≡ Some state
  pub in_turn : form.AreInTurn base.tickets (entries_of groups)
  pub count_fits : state.count ≤ worn_limit

-- This slot's checkpoint and records count. The other slot is closed where this byte isn't 1; where it is, the epoch behind its gate is smaller.
pub record IsInUse {E T : Type 0} {F : EntryForm E} (form : LayoutForm F T) (slot epoch other_gate : ℕ) (base : State T) (groups : List (List E)) (image : List ℕ) : Type 0 where
  pub stands : StandsBy form slot epoch base groups image
  -- a byte that isn't an open gate stands in the other slot on the device
  pub closed : other_gate ≢ 1 → get_or image (slot_start form.sizes (other slot)) 0 ≢ 1
  -- where an open gate may stand there, the checkpoint behind it is the older one, whatever the gate's byte becomes
  pub whole : other_gate ≡ 1 → epoch_at form.sizes (other slot) image < epoch

module _ {E T : Type 0} {F : EntryForm E} (form : LayoutForm F T) where
  -- an image stands for at most one state
  abbrev pub OneState : Type 0
  OneState = (s t : State T) (image : List ℕ) → StandsFor form s image → StandsFor form t image → s ≡ t

  -- each image that a crash now may leave stands for the state
  abbrev pub KeepsThrough : DiskView → State T → Type 0
  KeepsThrough disk state = (image : List ℕ) → MayLeave disk image → StandsFor form state image

  -- the image stands for no state
  abbrev pub StandsForNone : List ℕ → Type 0
  StandsForNone image = (state : State T) → StandsFor form state image → ⊥

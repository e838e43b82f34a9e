-- What loading a device gives, and what a refusal to load it says.
use Rattle.std.specs.Prelude.{◌≡◌, ◌<◌, ◌≤◌, ℕ, List, length, IsTrue, Some}
use Rattle.disk_trait.specs.Disk.{DiskView, IsSettled}
use Rattle.requests.specs.Tickets.{worn_limit}
use Rattle.journal.specs.Forms.{EntryForm}
use Rattle.journal.specs.Records.{entries_of}
use Rattle.layout_reader.specs.declared.checkpoint.Checkpoint.{Checkpoint}
use Rattle.layout_reader.specs.declared.loaded.Loaded.{Loaded}
use Rattle.layout_reader.specs.declared.refusals.OpenRefused.{OpenRefused}
use Rattle.layout_reader.specs.Forms.{LayoutForm}
use Rattle.layout_reader.specs.Reading.{IsRead, IsNotRead}
use Rattle.layout_reader.specs.Refusals.{IsFormatFault, HasLayout, TellsOfLayout}
use Rattle.layout_reader.specs.Sizes.{device_len, journal_of, version}
use Rattle.layout_reader.specs.Slots.{HasBase}
use Rattle.layout_reader.specs.Standing.{IsInUse, StandsBy, StandsFor, StandsForNone}
use Rattle.layout_reader.specs.State.{State, state_with, after}

-- ---- the states

-- the state that a checkpoint holds
abbrev pub held_by : {T : Type 0} → Checkpoint T → State T
held_by checkpoint = state_with checkpoint.chosen.head.count checkpoint.graph checkpoint.tickets

-- the state that was loaded
abbrev pub state_of : {E T : Type 0} → Loaded E T → State T
state_of loaded = state_with loaded.count loaded.graph loaded.tickets

-- the state of the checkpoint from which it was loaded
abbrev pub base_of : {E T : Type 0} → Loaded E T → State T
base_of loaded = state_with loaded.base_count loaded.base.value loaded.base_tickets.value

-- ---- its parts

-- an image has all that a standing asks of this checkpoint but the records
abbrev pub HasAsBase : {E T : Type 0} {F : EntryForm E} → LayoutForm F T → Checkpoint T → List ℕ → Type 0
HasAsBase form checkpoint image =
    HasBase form checkpoint.chosen.slot checkpoint.chosen.head.epoch checkpoint.chosen.other_gate (held_by checkpoint) image

-- What was loaded comes from this checkpoint.
pub record ComesFrom {E T : Type 0} (checkpoint : Checkpoint T) (loaded : Loaded E T) : Type 0 where
  pub slot : loaded.slot ≡ checkpoint.chosen.slot
  pub epoch : loaded.epoch ≡ checkpoint.chosen.head.epoch
  pub other_gate : loaded.other_gate ≡ checkpoint.chosen.other_gate
  pub count : loaded.base_count ≡ checkpoint.chosen.head.count
  pub graph : loaded.base.value ≡ checkpoint.graph
  pub tickets : loaded.base_tickets.value ≡ checkpoint.tickets

-- The parts of what was loaded fit each other.
pub record FitTogether {E T : Type 0} {F : EntryForm E} (form : LayoutForm F T) (loaded : Loaded E T) : Type 0 where
  pub slot : loaded.slot < 2
  -- the journal is that of the slot
  pub area : loaded.journal.area ≡ journal_of form.sizes loaded.slot
  -- the count is within the limit
  pub fits : loaded.count ≤ worn_limit
  -- the entries of the journal lead from the checkpoint to the state, each in turn
  pub folds : after form (base_of loaded) (entries_of loaded.journal.groups) ≡ Some (state_of loaded)
  pub in_turn : form.AreInTurn loaded.base_tickets.value (entries_of loaded.journal.groups)

-- the slot that was loaded has its checkpoint and its records in the image, and the other slot is closed or older
abbrev pub StandsAsLoaded : {E T : Type 0} {F : EntryForm E} → LayoutForm F T → Loaded E T → List ℕ → Type 0
StandsAsLoaded form loaded image =
    StandsBy form loaded.slot loaded.epoch (base_of loaded) loaded.journal.groups image

-- so the image stands for the state that was loaded
abbrev pub stands_for : {E T : Type 0} {F : EntryForm E} → (form : LayoutForm F T) (loaded : Loaded E T) (image : List ℕ)
    → FitTogether form loaded → StandsAsLoaded form loaded image → StandsFor form (state_of loaded) image
stands_for form loaded image parts by = record {
  slot = loaded.slot;
  epoch = loaded.epoch;
  base = base_of loaded;
  groups = loaded.journal.groups;
  is_slot = parts.slot;
  by = by;
  folds = parts.folds;
  in_turn = parts.in_turn;
  count_fits = parts.fits;
}

-- ---- loading

-- What was loaded is what stands on a device that keeps the model.
pub record LoadsContent {E T : Type 0} {F : EntryForm E} (form : LayoutForm F T) (disk left : DiskView) (loaded : Loaded E T) : Type 0 where
  -- the slot counts, with this checkpoint and these records
  pub in_use : IsInUse form loaded.slot loaded.epoch loaded.other_gate (base_of loaded) loaded.journal.groups disk.content
  -- whatever a crash leaves now, it is the content
  pub settled : IsSettled left
  -- the front is that of this layout
  pub this_version : HasLayout (version form.sizes) disk.content

-- A device was loaded.
pub record IsLoaded {E T : Type 0} {F : EntryForm E} (form : LayoutForm F T) (disk left : DiskView) (loaded : Loaded E T) : Type 0 where
  -- it was read
  pub read : IsRead disk left
  -- it is as long as the layout's devices
  pub long : length disk.content ≡ device_len form.sizes
  -- what was loaded fits together
  pub parts : FitTogether form loaded
  -- where the device keeps the model, it is what stands there
  pub of_model : IsTrue disk.keeps_model → LoadsContent form disk left loaded

-- What a refusal tells of a content.
pub record TellsOfForm {E T : Type 0} {F : EntryForm E} (form : LayoutForm F T) (content : List ℕ) (why : OpenRefused) : Type 0 where
  -- whether the front is that of the layout
  pub tells : TellsOfLayout (version form.sizes) why content
  -- a fault of the format comes only where the content stands for nothing
  pub refused : IsFormatFault why → StandsForNone form content

-- A device wasn't loaded.
pub record IsNotLoaded {E T : Type 0} {F : EntryForm E} (form : LayoutForm F T) (disk left : DiskView) (why : OpenRefused) : Type 0 where
  -- a read was refused
  pub not_read : IsNotRead disk left why
  -- where the device keeps the model, the refusal tells what stands there
  pub of_model : IsTrue disk.keeps_model → TellsOfForm form disk.content why

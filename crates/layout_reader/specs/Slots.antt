-- What a slot holds: a checkpoint behind its head, and records behind that.
use Rattle.std.specs.Prelude.{◌≡◌, ◌≤◌, ◌+◌, ℕ, List, length, Some}
use Rattle.disk_trait.specs.Disk.{bytes_at}
use Rattle.requests.specs.Tickets.{worn_limit}
use Rattle.journal.specs.Forms.{EntryForm}
use Rattle.journal.specs.Records.{Spells, entries_of}
use Rattle.layout_reader.specs.Heads.{IsNewestIn}
use Rattle.layout_reader.specs.Sizes.{slot_room, device_len, slot_start, journal_of, epoch_at, header}
use Rattle.layout_reader.specs.Forms.{LayoutForm}
use Rattle.layout_reader.specs.State.{State, IsLawful, after, checkpoint_text}

module _ {E T : Type 0} {F : EntryForm E} (form : LayoutForm F T) where
  -- a slot has the text of this checkpoint behind its gate
  abbrev pub HasCheckpoint : ℕ → ℕ → State T → List ℕ → Type 0
  HasCheckpoint slot epoch base image = bytes_at image (slot_start form.sizes slot + 1) (length (checkpoint_text form epoch base)) ≡ checkpoint_text form epoch base

  -- no records in this slot lead on from the base to a state within the limit
  abbrev pub LeadsNowhere : ℕ → State T → List ℕ → Type 0
  LeadsNowhere slot base image = (groups : List (List E)) (state : State T) → Spells F (journal_of form.sizes slot) groups image → after form base (entries_of groups) ≡ Some state → form.AreInTurn base.tickets (entries_of groups) → state.count ≤ worn_limit → ⊥

-- all that a standing asks of a slot but the records: the newest open slot has a checkpoint of a lawful base
pub record HasBase {E T : Type 0} {F : EntryForm E} (form : LayoutForm F T) (slot epoch other_gate : ℕ) (base : State T) (image : List ℕ) : Type 0 where
  pub as_long : length image ≡ device_len form.sizes
  pub head : bytes_at image 0 10 ≡ header form.sizes base.graph.nodes
  pub newest : IsNewestIn (slot_room form.sizes) slot other_gate image
  pub text : HasCheckpoint form slot epoch base image
  pub lawful : IsLawful form.sizes base.graph
  pub tickets : form.AreTickets base.tickets
  pub epoch_fits : epoch ≤ worn_limit
  pub epoch_there : epoch_at form.sizes slot image ≡ epoch

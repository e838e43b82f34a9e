-- What torn writes leave of the two slots.
use Rattle.std.proofs.Common.{◌≡◌, ◌⊎◌, inl, inr, ℕ, zero, suc, ◌+◌, ◌<◌, ◌≤◌, List, length, get_or, sym, ◌∙◌, arith}
use Rattle.disk_trait.specs.Disk.{Torn, bytes_at}
use Rattle.disk_trait.specs.Places.{below, above, byte_below, byte_above}
use Rattle.layout_2.specs.Records.{Entry, Spells, still_spells}
use Rattle.layout_2.specs.Layout.{slot_start, journal_of, epoch_at, journal_room, journal_start, slot_room}
use Rattle.layout_reader.specs.Heads.{other}
use Rattle.layout_2.specs.State.{State, checkpoint_text}
use Rattle.layout_2.specs.Standing.{StandsBy}
use Rattle.layout_2.proofs.Texts.{text_fits}

-- a range that another leaves alone
abbrev pub Apart : ℕ → ℕ → ℕ → ℕ → Type 0
Apart at m from k = (from + k ≤ at) ⊎ (at + m ≤ from)

pub apart : (old new : List ℕ) (at m from k : ℕ) → Torn at m old new → Apart at m from k → bytes_at new from k ≡ bytes_at old from k
apart old new at m from k torn (inl low) = below old new at m from k torn low
apart old new at m from k torn (inr high) = above old new at m from k torn high

pub byte_apart : (old new : List ℕ) (at m i d : ℕ) → Torn at m old new → Apart at m i 1 → get_or new i d ≡ get_or old i d
byte_apart old new at m i d torn (inl low) = byte_below old new at m i d torn (omega arith)
byte_apart old new at m i d torn (inr high) = byte_above old new at m i d torn high

-- within a slot, and so apart from the other one's
abbrev pub Within : ℕ → ℕ → ℕ → Type 0
Within slot from k = (slot_start slot ≤ from) × (from + k ≤ slot_start slot + slot_room)

pub slots_apart : (slot at m from k : ℕ) → slot < 2 → Within (other slot) at m → Within slot from k → Apart at m from k
slots_apart zero at m from k is there here = inl (omega arith)
slots_apart (suc slot) at m from k is there here = inr (omega arith)

-- the other slot lies apart from this one's journal
pub away : (slot from k : ℕ) → slot < 2 → slot_start (other slot) ≤ from → from + k ≤ slot_start (other slot) + slot_room → Apart (journal_start slot) journal_room from k
away zero from k is low high = inr (omega arith)
away (suc slot) from k is low high = inl (omega arith)

turned : (at m from k : ℕ) → Apart at m from k → (at + m ≤ from) ⊎ (from + k ≤ at)
turned at m from k (inl low) = inr low
turned at m from k (inr high) = inl high

-- what is torn in the other slot leaves this one
pub stays : (slot epoch : ℕ) (base : State) (groups : List (List Entry)) (old new : List ℕ) (at m : ℕ) → slot < 2 → StandsBy slot epoch base groups old → Torn at m old new → Within (other slot) at m
    → (get_or new (slot_start (other slot)) 0 ≡ 1 → epoch_at (other slot) new < epoch) → StandsBy slot epoch base groups new
stays slot epoch base groups old new at m is stands torn there older =
    let size = length (checkpoint_text epoch base) in
    let room = text_fits epoch base stands.tickets.wide stands.lawful in
    record {
      as_long = torn.as_long ∙ stands.as_long;
      head = below old new at m 0 10 torn (omega arith) ∙ stands.head;
      gate = byte_apart old new at m (slot_start slot) 0 torn (slots_apart slot at m (slot_start slot) 1 is there (omega arith, omega arith)) ∙ stands.gate;
      text = apart old new at m (slot_start slot + 1) size torn (slots_apart slot at m (slot_start slot + 1) size is there (omega arith, omega (arith, room))) ∙ stands.text;
      lawful = stands.lawful;
      tickets = stands.tickets;
      epoch_fits = stands.epoch_fits;
      older = older;
      records = still_spells (journal_of slot) groups old new at m torn (turned at m (journal_start slot) journal_room (slots_apart slot at m (journal_start slot) journal_room is there (omega arith, omega arith))) stands.records;
    }

-- what is torn in the journal alone leaves the rest of the device
pub moved : (slot epoch : ℕ) (base : State) (groups later : List (List Entry)) (old new : List ℕ) → slot < 2 → StandsBy slot epoch base groups old → Torn (journal_start slot) journal_room old new → Spells (journal_of slot) later new → StandsBy slot epoch base later new
moved slot epoch base groups later old new is stands torn spells =
    let at = journal_start slot in
    let size = length (checkpoint_text epoch base) in
    record {
      as_long = torn.as_long ∙ stands.as_long;
      head = below old new at journal_room 0 10 torn (omega arith) ∙ stands.head;
      gate = byte_below old new at journal_room (slot_start slot) 0 torn (omega arith) ∙ stands.gate;
      text = below old new at journal_room (slot_start slot + 1) size torn (omega (arith, text_fits epoch base stands.tickets.wide stands.lawful)) ∙ stands.text;
      lawful = stands.lawful;
      tickets = stands.tickets;
      epoch_fits = stands.epoch_fits;
      older = λ is_open. rw (apart old new at journal_room (slot_start (other slot) + 1) 8 torn (away slot (slot_start (other slot) + 1) 8 is (omega arith) (omega arith)))
          (stands.older (sym (byte_apart old new at journal_room (slot_start (other slot)) 0 torn (away slot (slot_start (other slot)) 1 is (omega arith) (omega arith))) ∙ is_open));
      records = spells;
    }

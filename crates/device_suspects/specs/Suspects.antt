-- What is on a device of layout 2 that no crash leaves.
use Rattle.std.specs.Prelude.{◌≡◌, ◌≢◌, ◌<◌, ◌+◌, ◌-◌, ℕ, List, [], ◌∷◌, ◌++◌, Option, Some, None, codes, decimal, get_or, length, option_map, slice_set, Vec}
use Rattle.std.specs.Int.{w32, w64, from_be_bytes}
use Rattle.disk_trait.specs.Disk.{bytes_at}
use Rattle.requests.specs.Tickets.{last_of, sessions}
use Rattle.journal.specs.RequestForm.{request_form}
use Rattle.journal.specs.Records.{SpellsNothing, records}
use Rattle.layout_2.specs.Layout.{epoch_at, journal_of, other, slot_start}
use Rattle.layout_2.specs.Records.{Area, Entry, Spells, entries_of}
use Rattle.layout_2.specs.State.{State}
use Rattle.layout_2.specs.Standing.{StandsFor}
use Rattle.device_suspects.specs.declared.suspect.Suspect.{Suspect}
use Rattle.device_suspects.specs.declared.suspect.Suspect.TheVariants.{Epoch, Count, Slot, Record}
use Rattle.device_suspects.specs.declared.suspect.Suspects.{Suspects}

-- ---- what bytes say

-- the number of 8 bytes from a place on
abbrev pub number_in : ℕ → List ℕ → ℕ
number_in at image = from_be_bytes w64 (bytes_at image at 8)

-- a slot's gate
abbrev pub gate_of : ℕ → List ℕ → ℕ
gate_of slot image = get_or image (slot_start slot) 0

-- the count of its checkpoint
abbrev pub count_of : ℕ → List ℕ → ℕ
count_of slot image = number_in (slot_start slot + 9) image

-- the records of an area, up to the first closed gate, list these requests
abbrev pub Lists : Area → List ℕ → List Entry → Type 0
Lists area image requests = (groups : List (List Entry)) × Spells area groups image × (requests ≡ entries_of groups)

-- the same of what was found there, which is nothing where the area has no records of the form
abbrev pub AreListed : {A : Type 0} → Area → List ℕ → Option (Vec Entry A) → Type 0
AreListed area image None = SpellsNothing request_form area image
AreListed area image (Some requests) = Lists area image requests.items

-- the first of requests has a ticket above the last one of its session
abbrev pub IsNewer : List ℕ → List Entry → Type 0
IsNewer tickets [] = ⊥
IsNewer tickets (request ∷ requests) = (request.session < sessions) × (last_of tickets request.session < request.ticket)

-- the gate behind the record at the front of bytes
abbrev pub gate_behind : List ℕ → ℕ
gate_behind bytes = get_or bytes (5 + from_be_bytes w32 (bytes_at bytes 1 4)) 0

-- the bytes of an area from a gate on, with that gate open
abbrev pub opened : Area → ℕ → List ℕ → List ℕ
opened area end image = slice_set (bytes_at image (area.start + end) (area.room - end)) 0 1

-- ---- suspects

-- both slots are open, and the epoch of the one that isn't in use isn't one less
abbrev pub HasEpochApart : ℕ → ℕ → List ℕ → Type 0
HasEpochApart slot epoch image = (gate_of (other slot) image ≡ 1) × (epoch_at (other slot) image + 1 ≢ epoch)

-- both slots are open, and the count and the records of the one that isn't in use don't lead to this count
abbrev pub HasCountApart : ℕ → ℕ → List ℕ → Type 0
HasCountApart slot count image =
    (gate_of (other slot) image ≡ 1) × ((requests : List Entry) → Lists (journal_of (other slot)) image requests → count_of (other slot) image + length requests ≢ count)

-- the slot that isn't in use is closed, and its records go on from these tickets
abbrev pub HidesSlot : ℕ → List ℕ → List ℕ → Type 0
HidesSlot slot tickets image =
    (gate_of (other slot) image ≢ 1) × ((requests : List Entry) × Lists (journal_of (other slot)) image requests × IsNewer tickets requests)

-- bytes are records, more than one, that go on from these tickets
abbrev pub GoOn : List ℕ → List ℕ → Type 0
GoOn tickets bytes =
    ((requests : List Entry) × Lists (record { start = 0; room = length bytes }) bytes requests × IsNewer tickets requests) × (gate_behind bytes ≡ 1)

-- the gate at this end of an area's records hides others: with it open, there are more than one that go on from these tickets
abbrev pub HidesRecords : Area → ℕ → List ℕ → List ℕ → Type 0
HidesRecords area end tickets image = GoOn tickets (opened area end image)

-- a place is told, or nothing, exactly where this holds
abbrev pub IsTold : Option ℕ → ℕ → Type 0 → Type 0
IsTold None place P = P → ⊥
IsTold (Some at) place P = (at ≡ place) × P

-- What is told of a device: of the slot, the checkpoint and the records by which its image stands for a state.
pub record AreSuspects (suspects : Suspects) (image : List ℕ) : Type 0 where
  pub state : State
  pub stands : StandsFor state image
  pub epoch : IsTold suspects.epoch (slot_start (other stands.slot) + 1) (HasEpochApart stands.slot stands.epoch image)
  pub count : IsTold suspects.count (slot_start stands.slot + 9) (HasCountApart stands.slot stands.base.count image)
  pub slot : IsTold suspects.slot (slot_start (other stands.slot)) (HidesSlot stands.slot state.tickets image)
  pub record_gate : IsTold suspects.record ((journal_of stands.slot).start + length (records request_form stands.groups))
      (HidesRecords (journal_of stands.slot) (length (records request_form stands.groups)) state.tickets image)

-- ---- what is printed

-- each that there is, in its place
abbrev pub listed : Suspects → List (Option Suspect)
listed suspects = option_map Epoch suspects.epoch ∷ option_map Count suspects.count ∷ option_map Slot suspects.slot ∷ option_map Record suspects.record ∷ []

-- the text of one
abbrev pub suspect_text : Suspect → List ℕ
suspect_text (Epoch at) = codes "suspect epoch at=" ++ decimal at
suspect_text (Count at) = codes "suspect count at=" ++ decimal at
suspect_text (Slot at) = codes "suspect slot at=" ++ decimal at
suspect_text (Record at) = codes "suspect record at=" ++ decimal at

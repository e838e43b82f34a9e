-- What is found in the slot that isn't in use.
use Rattle.std.specs.Prelude.{◌≡◌, ◌≢◌, ◌+◌, ℕ, List, Option, Some, None, length, Vec}
use Rattle.layout_2.specs.Layout.{epoch_at, journal_of}
use Rattle.layout_2.specs.Records.{Entry}
use Rattle.device_suspects.specs.Suspects.{AreListed, IsNewer, count_of, gate_of}
use Rattle.device_suspects.specs.declared.looking.OtherSlot.{OtherSlot}

-- this stands in a slot
pub record StandsThere (found : OtherSlot) (slot : ℕ) (image : List ℕ) : Type 0 where
  pub gate : found.gate ≡ gate_of slot image
  pub epoch : found.epoch ≡ epoch_at slot image
  pub count : found.count ≡ count_of slot image
  pub requests : AreListed (journal_of slot) image found.requests

-- from a count no requests, or these, lead to another one
abbrev pub LeadsElsewhere : {A : Type 0} → ℕ → Option (Vec Entry A) → ℕ → Type 0
LeadsElsewhere from None to = Unit {0}
LeadsElsewhere from (Some requests) to = from + length requests.items ≢ to

-- there are requests, and the first is newer than these tickets
abbrev pub GoesOnFrom : {A : Type 0} → List ℕ → Option (Vec Entry A) → Type 0
GoesOnFrom tickets None = ⊥
GoesOnFrom tickets (Some requests) = IsNewer tickets requests.items

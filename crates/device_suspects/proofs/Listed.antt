-- What is found of an area's requests says of all that it may list.
use Rattle.std.proofs.Common.{◌≡◌, ◌≢◌, ◌↔◌, ◌+◌, ◌∙◌, ℕ, List, Option, Some, None, Bool, IsTrue, length, ap, subst, sym}
use Rattle.std.specs.Prelude.{Vec}
use Rattle.journal.specs.RequestForm.{request_form, request_is_form}
use Rattle.journal.proofs.Lists.{one_list}
use Rattle.layout_2.specs.Records.{Area, Entry, entries_of}
use Rattle.layout_2.specs.Layout.{journal_of, other}
use Rattle.device_suspects.specs.Looking.{GoesOnFrom, LeadsElsewhere, StandsThere}
use Rattle.device_suspects.specs.Suspects.{AreListed, GoOn, HasCountApart, HasEpochApart, HidesRecords, HidesSlot, IsNewer, IsTold, Lists, count_of, gate_behind, gate_of}
use Rattle.device_suspects.specs.declared.looking.OtherSlot.{OtherSlot}

-- an area lists one list of requests
one : (area : Area) (image : List ℕ) (rs ts : List Entry) → Lists area image rs → Lists area image ts → rs ≡ ts
one area image rs ts first second = first.2 ∙ (ap entries_of (one_list request_form request_is_form area first.0 second.0 image first.1 second.1) ∙ sym second.2)

-- they go on from tickets as those that were found do
pub newer : {A : Type 0} (area : Area) (image tickets : List ℕ) (found : Option (Vec Entry A)) → AreListed area image found
    → GoesOnFrom tickets found ↔ ((requests : List Entry) × Lists area image requests × IsNewer tickets requests)
newer area image tickets None none = (λ goes. absurd goes, λ some. none some.1.0 some.1.1)
newer area image tickets (Some rs) lists =
    (λ goes. (rs.items, lists, goes), λ some. subst (λ (ts : List Entry). IsNewer tickets ts) (one area image some.0 rs.items some.1 lists) some.2)

-- and lead elsewhere as those do
pub elsewhere : {A : Type 0} (area : Area) (image : List ℕ) (from to : ℕ) (found : Option (Vec Entry A)) → AreListed area image found
    → LeadsElsewhere from found to ↔ ((requests : List Entry) → Lists area image requests → from + length requests ≢ to)
elsewhere area image from to None none = (λ leads rs lists. absurd (none lists.0 lists.1), λ all. tt)
elsewhere area image from to (Some rs) lists =
    (λ leads ts other. subst (λ (us : List Entry). from + length us ≢ to) (one area image rs.items ts lists other) leads, λ all. all rs.items lists)

pub goes_on : {A : Type 0} (tickets bytes : List ℕ) (found : Option (Vec Entry A)) (is : Bool) → AreListed (record { start = 0; room = length bytes }) bytes found
    → IsTrue is ↔ (GoesOnFrom tickets found × (gate_behind bytes ≡ 1)) → IsTrue is ↔ GoOn tickets bytes
goes_on tickets bytes found is listed so =
    let both = newer (record { start = 0; room = length bytes }) bytes tickets found listed in
    (λ yes. (both.0 (so.0 yes).0, (so.0 yes).1), λ on. so.1 (both.1 on.0, on.1))

-- what is told where one thing holds is told where another does that holds with it
pub told_on : (o : Option ℕ) (at : ℕ) (P Q : Type 0) → P ↔ Q → IsTold o at P → IsTold o at Q
told_on None at P Q both none = λ q. none (both.1 q)
told_on (Some place) at P Q both told = (told.0, both.0 told.1)

-- the same at another place that is the same
pub told_at : (o : Option ℕ) (at place : ℕ) (P : Type 0) → at ≡ place → IsTold o at P → IsTold o place P
told_at o at place P same told = subst (λ (n : ℕ). IsTold o n P) same told

-- ---- what stands in the slot that isn't in use

pub epoch_apart : (found : OtherSlot) (slot epoch : ℕ) (image : List ℕ) (is : Bool) → StandsThere found (other slot) image
    → IsTrue is ↔ ((found.gate ≡ 1) × (found.epoch + 1 ≢ epoch)) → IsTrue is ↔ HasEpochApart slot epoch image
epoch_apart found slot epoch image is there so =
    subst (λ (e : ℕ). IsTrue is ↔ ((gate_of (other slot) image ≡ 1) × (e + 1 ≢ epoch))) there.epoch
    (subst (λ (g : ℕ). IsTrue is ↔ ((g ≡ 1) × (found.epoch + 1 ≢ epoch))) there.gate so)

pub count_apart : (found : OtherSlot) (slot count : ℕ) (image : List ℕ) (is : Bool) → StandsThere found (other slot) image
    → IsTrue is ↔ ((found.gate ≡ 1) × LeadsElsewhere found.count found.requests count) → IsTrue is ↔ HasCountApart slot count image
count_apart found slot count image is there so =
    let at = subst (λ (c : ℕ). IsTrue is ↔ ((gate_of (other slot) image ≡ 1) × LeadsElsewhere c found.requests count)) there.count
    (subst (λ (g : ℕ). IsTrue is ↔ ((g ≡ 1) × LeadsElsewhere found.count found.requests count)) there.gate so) in
    let both = elsewhere (journal_of (other slot)) image (count_of (other slot) image) count found.requests there.requests in
    (λ yes. ((at.0 yes).0, both.0 (at.0 yes).1), λ has. at.1 (has.0, both.1 has.1))

pub slot_hides : (found : OtherSlot) (slot : ℕ) (tickets image : List ℕ) (is : Bool) → StandsThere found (other slot) image
    → IsTrue is ↔ ((found.gate ≢ 1) × GoesOnFrom tickets found.requests) → IsTrue is ↔ HidesSlot slot tickets image
slot_hides found slot tickets image is there so =
    let at = subst (λ (g : ℕ). IsTrue is ↔ ((g ≢ 1) × GoesOnFrom tickets found.requests)) there.gate so in
    let both = newer (journal_of (other slot)) image tickets found.requests there.requests in
    (λ yes. ((at.0 yes).0, both.0 (at.0 yes).1), λ has. at.1 (has.0, both.1 has.1))

-- what is told of an area, an end and bytes is told of those that are the same
pub record_told : (o : Option ℕ) (area there : Area) (end last : ℕ) (tickets left image : List ℕ) → area ≡ there → end ≡ last → left ≡ image
    → IsTold o (area.start + end) (HidesRecords area end tickets left) → IsTold o (there.start + last) (HidesRecords there last tickets image)
record_told o area there end last tickets left image same_area same_end same_bytes told =
    subst (λ (bytes : List ℕ). IsTold o (there.start + last) (HidesRecords there last tickets bytes)) same_bytes
    (subst (λ (e : ℕ). IsTold o (there.start + e) (HidesRecords there e tickets left)) same_end
    (subst (λ (a : Area). IsTold o (a.start + end) (HidesRecords a end tickets left)) same_area told))
